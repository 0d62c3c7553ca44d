use Rattle.elim_core.proofs.Spans.{WrittenSoFar}
use Rattle.elim_core.proofs.span.write_multiple.Given as goal

abbrev pub invariant-loop-i : goal.invariant-loop-i
invariant-loop-i g l = WrittenSoFar g.F.Field.modulus l.initial.words l.words l.row l.start l.from l.factor l.i
