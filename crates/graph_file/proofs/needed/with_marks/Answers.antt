use Rattle.graph_file.proofs.MarkLemmas.{MarksFirst-next}
use Rattle.graph_file.proofs.needed.with_marks.Goals as goal

pub loop-from-preserved : goal.loop-from-preserved
loop-from-preserved c = MarksFirst-next c.args.sources.now c.loop-from.from-index c.args.flags.items c.loop-from.flags.items c.with_mark-flags.result.items _ c.loop-from-test.true c.with_mark-flags.ensures c.requires c.loop-from.invariant
