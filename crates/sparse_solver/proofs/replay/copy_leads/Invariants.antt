use Rattle.std.proofs.Common.{◌≡◌, ℕ, ◌<◌, get_or}
use Rattle.sparse_solver.proofs.replay.copy_leads.Given as goal

abbrev pub invariant-loop-turn : goal.invariant-loop-turn
invariant-loop-turn l = record {
  copied : (t : ℕ) → t < l.turn → get_or l.leads t 0 ≡ get_or l.kept (get_or l.steps.leads.items t 0) 0;
}
