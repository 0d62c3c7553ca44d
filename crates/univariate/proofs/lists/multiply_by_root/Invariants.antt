use Rattle.std.proofs.Common.{◌≡◌, ℕ, ◌+◌, ◌*◌, ◌%◌, ◌≤◌, suc, slice_index}
use Rattle.prime_field.specs.Modulus.{value_of}
use Rattle.univariate.specs.Coefficients.{AreResidues}
use Rattle.univariate.proofs.lists.multiply_by_root.Given as goal

abbrev pub invariant-loop-i : goal.invariant-loop-i
invariant-loop-i l = record {
  residues : AreResidues (value_of l.m) l.coefficients;
  rest : (k : ℕ) → k ≤ l.i → slice_index l.coefficients k ≡ slice_index l.initial.coefficients k;
  done : (k : ℕ) → l.i ≤ k →
      slice_index l.coefficients (suc k) % value_of l.m ≡ (slice_index l.initial.coefficients k + l.opposite * slice_index l.initial.coefficients (suc k)) % value_of l.m;
}
