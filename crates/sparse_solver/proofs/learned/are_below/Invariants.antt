use Rattle.std.proofs.Common.{ℕ, ◌<◌, ◌≤◌, get_or}
use Rattle.sparse_solver.proofs.learned.are_below.Given as goal

abbrev pub invariant-loop-place : goal.invariant-loop-place
invariant-loop-place l = (q : ℕ) → l.from ≤ q → q < l.place → get_or l.numbers q 0 < l.bound
