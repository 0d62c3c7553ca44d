-- No modulus so far.
use Rattle.std.proofs.Common.{◌≡◌, None, replicate}
use Rattle.graph_eval.proofs.worker.nothing_kept.Given as goal

abbrev pub invariant-loop-memo : goal.invariant-loop-memo
invariant-loop-memo l = l.moduli.items ≡ replicate l._memo None
