use Rattle.std.proofs.Common.{◌≡◌, ℕ, ◌*◌, ◌%◌, ◌<◌, ◌≤◌, slice_index}
use Rattle.prime_field.specs.Modulus.{value_of}
use Rattle.univariate.specs.Coefficients.{AreResidues}
use Rattle.univariate.proofs.lists.scale.Given as goal

abbrev pub invariant-loop-coefficient : goal.invariant-loop-coefficient
invariant-loop-coefficient l = record {
  residues : AreResidues (value_of l.m) l.coefficients;
  done : (i : ℕ) → i < l.coefficient-index →
      slice_index l.coefficients i % value_of l.m ≡ (l.factor * slice_index l.initial.coefficients i) % value_of l.m;
  rest : (i : ℕ) → l.coefficient-index ≤ i → slice_index l.coefficients i ≡ slice_index l.initial.coefficients i;
}
