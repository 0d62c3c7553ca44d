use Rattle.elim_core.proofs.Columns.{ConstantsSoFar}
use Rattle.elim_core.proofs.solver.write_constants.Given as goal

abbrev pub invariant-loop-t : goal.invariant-loop-t
invariant-loop-t l = ConstantsSoFar l.values l.want l.count l.initial.out l.out l.t
