use Rattle.elim_core.proofs.Spans.{ClearedSoFar}
use Rattle.elim_core.proofs.elimination.clear.Given as goal

abbrev pub invariant-loop-i : goal.invariant-loop-i
invariant-loop-i l = ClearedSoFar l.initial.row l.row l.fn.lead.place l.i
