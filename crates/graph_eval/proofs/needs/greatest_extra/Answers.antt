-- Each node is sound, and calls earlier graphs.
use Rattle.std.proofs.Common.{length}
use Rattle.graph_eval.proofs.Places.{read_at}
use Rattle.graph_eval.proofs.ShapeLaws.{few_unknowns, has_window}
use Rattle.graph_eval.proofs.needs.greatest_extra.Goals as goal

pub node_extra-requires-clause-few : goal.node_extra-requires-clause-few
node_extra-requires-clause-few c =
    let is = read_at c.as_slice-node-items.result.now c.args.graph.now.nodes c.loop-node.node-index c.node-item.result c.as_slice-node-items.ensures c.loop-node-test.true c.node-item.is in
    few_unknowns (length c.args.graph.now.inputs) c.loop-node.node-index c.node-item.result.kind (c.requires.sound.nodes c.loop-node.node-index c.node-item.result is).kind

pub node_extra-requires-clause-window : goal.node_extra-requires-clause-window
node_extra-requires-clause-window c =
    let is = read_at c.as_slice-node-items.result.now c.args.graph.now.nodes c.loop-node.node-index c.node-item.result c.as_slice-node-items.ensures c.loop-node-test.true c.node-item.is in
    has_window (length c.args.graph.now.inputs) c.loop-node.node-index c.node-item.result.kind (c.requires.sound.nodes c.loop-node.node-index c.node-item.result is).kind

pub node_extra-requires-clause-known : goal.node_extra-requires-clause-known
node_extra-requires-clause-known c =
    let is = read_at c.as_slice-node-items.result.now c.args.graph.now.nodes c.loop-node.node-index c.node-item.result c.as_slice-node-items.ensures c.loop-node-test.true c.node-item.is in
    λ called at. c.requires.known c.loop-node.node-index c.node-item.result called is at

pub node_extra-requires-clause-there : goal.node_extra-requires-clause-there
node_extra-requires-clause-there c =
    let is = read_at c.as_slice-node-items.result.now c.args.graph.now.nodes c.loop-node.node-index c.node-item.result c.as_slice-node-items.ensures c.loop-node-test.true c.node-item.is in
    λ called at. c.requires.there c.loop-node.node-index c.node-item.result called is at
