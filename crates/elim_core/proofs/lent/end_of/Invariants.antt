use Rattle.std.proofs.Common.{◌≡◌, ℕ, ◌+◌, ◌<◌, ◌≤◌, get_or}
use Rattle.elim_core.proofs.lent.end_of.Given as goal

abbrev pub invariant-loop-end : goal.invariant-loop-end
invariant-loop-end l = (l.end ≤ l.unknowns) × ((k : ℕ) → l.end < k + 1 → k < l.unknowns → get_or l.row k 0 ≡ 0)

abbrev pub decreases-loop-end : goal.decreases-loop-end
decreases-loop-end l = l.end
