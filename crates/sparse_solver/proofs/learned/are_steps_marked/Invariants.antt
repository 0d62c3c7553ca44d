use Rattle.std.proofs.Common.{◌≡◌, ℕ, ◌<◌, ◌≤◌, get_or, length}
use Rattle.sparse_solver.specs.Steps.{part_of}
use Rattle.sparse_solver.proofs.learned.are_steps_marked.Given as goal

abbrev pub invariant-loop-place : goal.invariant-loop-place
invariant-loop-place l = (q : ℕ) → get_or l.steps.firsts.items l.turn 0 ≤ q → q < l.place →
    (i : ℕ) → i < length (part_of l.steps (get_or l.steps.earlier.items q 0) l.steps.columns.items) →
    get_or l.marks (get_or (part_of l.steps (get_or l.steps.earlier.items q 0) l.steps.columns.items) i 0) 0 ≡ l.mark
