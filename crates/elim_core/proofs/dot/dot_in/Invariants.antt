use Rattle.std.proofs.Common.{◌≡◌, ◌-◌, ◌%◌, ◌<◌, ◌≤◌, length}
use Rattle.prime_field.specs.Sum.{sum_to}
use Rattle.elim_core.specs.Multiples.{product_at}
use Rattle.elim_core.proofs.dot.dot_in.Given as goal

abbrev pub invariant-loop-place : goal.invariant-loop-place
invariant-loop-place g l =
    (l.sum ≡ sum_to l.place (product_at l.words l.values) % g.F.Field.modulus) × (l.sum < g.F.Field.modulus) × (l.place ≤ length l.words)

abbrev pub decreases-loop-place : goal.decreases-loop-place
decreases-loop-place g l = length l.words - l.place
