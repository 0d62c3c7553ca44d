use Rattle.std.proofs.Common.{◌∙◌}
use Rattle.graph_file.proofs.Less.{before-step}
use Rattle.graph_file.proofs.numbers.comes_before.Goals as goal

pub loop-place-preserved : goal.loop-place-preserved
loop-place-preserved c = c.loop-place.invariant ∙ before-step c.args.first.now c.args.second.now c.loop-place.place c.loop-place-test.true c.requires c.if-first-place.false
