use Rattle.std.proofs.Common.{◌≡◌, ℕ, ◌<◌, ◌≤◌, ◌+◌, get_or, length}
use Rattle.sparse_solver.specs.Steps.{IsTurn}
use Rattle.sparse_solver.proofs.learned.are_turns.Given as goal

abbrev pub invariant-loop-turn : goal.invariant-loop-turn
invariant-loop-turn l = record {
  room : length l.marks ≡ l.unknowns + 1;
  below : (k : ℕ) → get_or l.marks k 0 ≤ l.turn;
  each : (t : ℕ) → t < l.turn → IsTurn l.rows l.steps t;
}
