use Rattle.std.proofs.Common.{length, slice_index}
use Rattle.prime_field.specs.Modulus.{value_of}
use Rattle.univariate.specs.Coefficients.{AreResidues}
use Rattle.newton_interp.specs.Grid.{AreOneAt}
use Rattle.newton_interp.proofs.grid.write_basis.Given as goal

abbrev pub invariant-loop-j : goal.invariant-loop-j
invariant-loop-j l = record {
  residues : AreResidues (value_of l.m) l.basis;
  basis : AreOneAt (value_of l.m) (length l.points) (slice_index l.points) l.j l.basis;
}
