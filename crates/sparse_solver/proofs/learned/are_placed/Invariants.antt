use Rattle.std.proofs.Common.{ℕ, ◌<◌}
use Rattle.sparse_solver.specs.Steps.{IsPlaced}
use Rattle.sparse_solver.proofs.learned.are_placed.Given as goal

abbrev pub invariant-loop-turn : goal.invariant-loop-turn
invariant-loop-turn l = (t : ℕ) → t < l.turn → IsPlaced l.steps t
