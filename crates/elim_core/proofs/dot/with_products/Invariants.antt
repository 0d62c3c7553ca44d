use Rattle.std.proofs.Common.{◌≡◌, ◌+◌}
use Rattle.prime_field.specs.Sum.{sum_to}
use Rattle.elim_core.specs.Multiples.{product_at}
use Rattle.elim_core.proofs.dot.with_products.Given as goal

abbrev pub invariant-loop-t : goal.invariant-loop-t
invariant-loop-t g l = l.sum ≡ l.start + sum_to l.t (λ i. product_at l.words l.values (l.place + i))
