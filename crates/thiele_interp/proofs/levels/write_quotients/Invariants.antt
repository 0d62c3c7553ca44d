use Rattle.std.proofs.Common.{◌≡◌, ℕ, suc, ◌+◌, ◌-◌, ◌*◌, ◌%◌, ◌<◌, ◌≤◌, slice_index}
use Rattle.prime_field.specs.Modulus.{value_of}
use Rattle.univariate.specs.Coefficients.{AreResidues}
use Rattle.thiele_interp.proofs.levels.write_quotients.Given as goal

abbrev pub invariant-loop-i : goal.invariant-loop-i
invariant-loop-i l = record {
  residues : AreResidues (value_of l.m) l.differences;
  earlier : (j : ℕ) → j ≤ l.k → slice_index l.differences j ≡ slice_index l.initial.differences j;
  done : (j : ℕ) → j < l.i → slice_index l.differences (suc l.k + j) ≡
      ((slice_index l.points (suc l.k + j) + (value_of l.m - slice_index l.points l.k)) * slice_index l.inverses j) % value_of l.m;
}
