use Rattle.std.proofs.Common.{◌≡◌, ℕ, ◌+◌, ◌-◌, ◌<◌, ◌≤◌, length, slice_index}
use Rattle.prime_field.specs.Modulus.{value_of}
use Rattle.prime_field.specs.Residue.{IsUnit}
use Rattle.univariate.specs.Coefficients.{AreResidues}
use Rattle.thiele_interp.specs.Thiele.{inverse_difference, coefficient_at, ClosesAt}
use Rattle.thiele_interp.proofs.levels.closing_level.Given as goal

abbrev pub invariant-loop-level : goal.invariant-loop-level
invariant-loop-level l = record {
  lengths : length l.differences ≡ length l.points;
  residues : AreResidues (value_of l.m) l.differences;
  units : (i j : ℕ) → i < l.level → i < j → j < length l.points →
      IsUnit (value_of l.m) (inverse_difference (value_of l.m) (slice_index l.points) (slice_index l.values) i j +
      (value_of l.m - inverse_difference (value_of l.m) (slice_index l.points) (slice_index l.values) i i));
  done : (i : ℕ) → i < l.level → slice_index l.differences i ≡ coefficient_at (value_of l.m) (slice_index l.points) (slice_index l.values) i;
  later : (j : ℕ) → l.level ≤ j → j < length l.points →
      slice_index l.differences j ≡ inverse_difference (value_of l.m) (slice_index l.points) (slice_index l.values) l.level j;
  open_before : (e : ℕ) → e < l.level → ClosesAt (value_of l.m) (length l.points) (slice_index l.points) (slice_index l.values) e → ⊥;
}

abbrev pub decreases-loop-level : goal.decreases-loop-level
decreases-loop-level l = length l.points - l.level
