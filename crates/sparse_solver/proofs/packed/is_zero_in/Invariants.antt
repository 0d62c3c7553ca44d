use Rattle.std.proofs.Common.{◌≡◌, ℕ, ◌<◌, get_or}
use Rattle.sparse_solver.proofs.packed.is_zero_in.Given as goal

abbrev pub invariant-loop-column : goal.invariant-loop-column
invariant-loop-column l = (i : ℕ) → i < l.column-index → get_or l.row (get_or l.columns i 0) 0 ≡ 0
