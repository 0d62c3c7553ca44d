use Rattle.std.proofs.Common.{◌≡◌, ◌-◌, length, min}
use Rattle.prime_field.specs.Sum.{sum_to}
use Rattle.ray_grid.specs.Covering.{exponent_count}
use Rattle.ray_grid.proofs.counting.+count_exponents.Given as goal

abbrev pub decreases-count_exponents : goal.decreases-count_exponents
decreases-count_exponents l = length l.entries.now

abbrev pub invariant-loop-k : goal.invariant-loop-k
invariant-loop-k l = l.count ≡ min l.most (sum_to l.k (λ k. exponent_count l.others (l.left - k)))
