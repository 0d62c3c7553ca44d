use Rattle.std.proofs.Common.{◌≡◌, ℕ, ◌-◌, ◌<◌, length, slice_index}
use Rattle.laurent_node.proofs.terms.least_exponent.Given as goal

abbrev pub invariant-loop-exponent : goal.invariant-loop-exponent
invariant-loop-exponent l = (k : ℕ) → k < l.exponent → slice_index l.coefficients k ≡ 0

abbrev pub decreases-loop-exponent : goal.decreases-loop-exponent
decreases-loop-exponent l = length l.coefficients - l.exponent
