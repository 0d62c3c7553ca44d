use Rattle.std.proofs.Common.{ℕ, ◌+◌, ◌-◌, length, slice_index}
use Rattle.prime_field.specs.Modulus.{value_of}
use Rattle.prime_field.specs.Residue.{IsUnit}
use Rattle.univariate.specs.Coefficients.{IsBelow, AreResidues}
use Rattle.thiele_interp.specs.Pairs.{AgreesAt}
use Rattle.thiele_interp.proofs.euclid.divide_far.Given as goal

abbrev pub invariant-loop-shift : goal.invariant-loop-shift
invariant-loop-shift l = record {
  above_residues : AreResidues (value_of l.m) l.above;
  earlier_residues : AreResidues (value_of l.m) l.earlier;
  above_below : IsBelow (value_of l.m) (length l.rest - 1 + l.shift) l.above;
  earlier_below : IsBelow (value_of l.m) (length l.factor + l.gap) l.earlier;
  earlier_unit : IsUnit (value_of l.m) (slice_index l.earlier (length l.factor - 1 + l.gap));
  agree : (n : ℕ) (t v : ℕ → ℕ) → AgreesAt (value_of l.m) n t v l.rest l.factor → AgreesAt (value_of l.m) n t v l.fn.above l.fn.earlier →
      AgreesAt (value_of l.m) n t v l.above l.earlier;
}
