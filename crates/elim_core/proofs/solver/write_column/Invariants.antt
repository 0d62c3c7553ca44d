use Rattle.prime_field.specs.Modulus.{value_of}
use Rattle.elim_core.proofs.Columns.{ColumnSoFar}
use Rattle.elim_core.proofs.solver.write_column.Given as goal

abbrev pub invariant-loop-t : goal.invariant-loop-t
invariant-loop-t l = ColumnSoFar (value_of l.modulus) l.values l.set l.want l.column l.initial.out l.out l.t
