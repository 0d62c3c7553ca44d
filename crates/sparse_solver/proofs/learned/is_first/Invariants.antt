use Rattle.std.proofs.Common.{◌≢◌, ℕ, ◌<◌, get_or}
use Rattle.sparse_solver.proofs.learned.is_first.Given as goal

abbrev pub invariant-loop-place : goal.invariant-loop-place
invariant-loop-place l = (i : ℕ) → 0 < i → i < l.place → get_or l.columns i 0 ≢ 0 → l.number < get_or l.columns i 0
