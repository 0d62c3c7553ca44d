-- Each node is sound.
use Rattle.graph_eval.proofs.Places.{read_at}
use Rattle.graph_eval.proofs.ShapeLaws.{few_unknowns}
use Rattle.std.proofs.Common.{length}
use Rattle.graph_eval.proofs.systems.greatest_work.Goals as goal

pub work_of-requires : goal.work_of-requires
work_of-requires c =
    let is = read_at c.as_slice-node-items.result.now c.args.graph.now.nodes c.loop-node.node-index c.node-item.result c.as_slice-node-items.ensures c.loop-node-test.true c.node-item.is in
    few_unknowns (length c.args.graph.now.inputs) c.loop-node.node-index c.node-item.result.kind (c.requires.nodes c.loop-node.node-index c.node-item.result is).kind
