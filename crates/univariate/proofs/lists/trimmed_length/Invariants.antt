use Rattle.std.proofs.Common.{◌≡◌, ℕ, ◌≤◌, length, slice_index}
use Rattle.univariate.proofs.lists.trimmed_length.Given as goal

abbrev pub invariant-loop-count : goal.invariant-loop-count
invariant-loop-count l = record {
  within : l.count ≤ length l.coefficients;
  zeros : (k : ℕ) → l.count ≤ k → slice_index l.coefficients k ≡ 0;
}

abbrev pub decreases-loop-count : goal.decreases-loop-count
decreases-loop-count l = l.count
