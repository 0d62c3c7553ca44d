use Rattle.std.proofs.Common.{ℕ, ◌<◌, get_or}
use Rattle.sparse_solver.proofs.learned.are_columns.Given as goal

abbrev pub invariant-loop-column : goal.invariant-loop-column
invariant-loop-column l = (i : ℕ) → i < l.column-index → get_or l.columns i 0 < l.width
