use Rattle.std.proofs.Common.{◌≢◌, ℕ, ◌+◌, ◌<◌, get_or}
use Rattle.elim_core.proofs.group.end_of_run.Given as goal

abbrev pub invariant-loop-slot : goal.invariant-loop-slot
invariant-loop-slot l = (j : ℕ) → l.place < j + 1 → j < l.slot → get_or l.slots.ends.now j 0 ≢ 0
