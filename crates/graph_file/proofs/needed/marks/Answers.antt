use Rattle.std.proofs.Common.{arith}
use Rattle.graph_file.proofs.MarkLemmas.{AreMarkedFrom-start}
use Rattle.graph_file.proofs.needed.marks.Goals as goal

pub loop-place-init : goal.loop-place-init
loop-place-init c = record {
  within = omega arith;
  flags = AreMarkedFrom-start c.args.nodes.now c.args.output c.in_ok-flags.flags.items c.with_mark-flags.result.items c.in_ok-flags.ensures c.with_mark-flags.ensures c.requires.within;
}
