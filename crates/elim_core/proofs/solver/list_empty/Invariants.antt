use Rattle.elim_core.proofs.Columns.{EmptySoFar}
use Rattle.elim_core.proofs.solver.list_empty.Given as goal

abbrev pub invariant-loop-place : goal.invariant-loop-place
invariant-loop-place l = EmptySoFar l.ends l.out l.count l.place
