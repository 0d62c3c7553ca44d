use Rattle.std.proofs.Common.{length}
use Rattle.prime_field.specs.Modulus.{value_of}
use Rattle.univariate.specs.Coefficients.{AreResidues}
use Rattle.newton_interp.proofs.Columns.{AreCombined}
use Rattle.newton_interp.proofs.grid.combine_columns.Given as goal

abbrev pub invariant-loop-number : goal.invariant-loop-number
invariant-loop-number l = record {
  residues : AreResidues (value_of l.m) l.buffer;
  combined : AreCombined (value_of l.m) (length l.initial.column) l.block l.number l.basis l.initial.buffer l.buffer;
}
