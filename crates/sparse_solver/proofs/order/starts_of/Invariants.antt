use Rattle.sparse_solver.proofs.Orders.{StartsSoFar}
use Rattle.sparse_solver.proofs.order.starts_of.Given as goal

abbrev pub invariant-loop-row : goal.invariant-loop-row
invariant-loop-row l = StartsSoFar l.rows l.starts.items l.next l.row-index
