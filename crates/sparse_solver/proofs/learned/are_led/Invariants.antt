use Rattle.std.proofs.Common.{ℕ, ◌<◌}
use Rattle.sparse_solver.specs.Steps.{IsLed}
use Rattle.sparse_solver.proofs.learned.are_led.Given as goal

abbrev pub invariant-loop-number : goal.invariant-loop-number
invariant-loop-number l = (j : ℕ) → 0 < j → j < l.number → IsLed l.steps l.set j
