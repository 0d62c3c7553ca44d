-- One node more.
use Rattle.std.proofs.Common.{length, ap, arith}
use Rattle.graph_eval.proofs.Places.{read_at}
use Rattle.graph_eval.proofs.Framed.{nodes_drop, nodes_past}
use Rattle.graph_eval.proofs.frames.graph_kept.Goals as goal

pub node_kept-own-requires-clause-calls : goal.node_kept-own-requires-clause-calls
node_kept-own-requires-clause-calls c =
    let graphs = c.args.graphs.now in
    let learned = c.args.learned.now in
    let nodes = c.args.graph.now.nodes in
    let index = c.loop-node.node-index in
    let node = c.node-item.result in
    let is = read_at c.as_slice-node-items.result.now nodes index node c.as_slice-node-items.ensures c.loop-node-test.true c.node-item.is in
    λ called at. c.requires.calls index node called is at

pub overflow_add-kept : goal.overflow_add-kept
overflow_add-kept c = omega (arith, c.loop-node.invariant.bound, c.node_kept-own.ensures.bound, c.loop-node-test.true, ap length c.as_slice-node-items.ensures, c.requires.this.bounded)

pub loop-node-preserved : goal.loop-node-preserved
loop-node-preserved c =
    let graphs = c.args.graphs.now in
    let learned = c.args.learned.now in
    let nodes = c.args.graph.now.nodes in
    let index = c.loop-node.node-index in
    let node = c.node-item.result in
    let is = read_at c.as_slice-node-items.result.now nodes index node c.as_slice-node-items.ensures c.loop-node-test.true c.node-item.is in
    record {
      words = omega (arith, c.loop-node.invariant.words, nodes_drop graphs learned nodes index node is, c.node_kept-own.ensures.words);
      bound = omega (arith, c.loop-node.invariant.bound, c.node_kept-own.ensures.bound);
    }

pub returns-clause-words : goal.returns-clause-words
returns-clause-words c = omega (arith, c.loop-node.invariant.words, nodes_past c.args.graphs.now c.args.learned.now c.args.graph.now.nodes c.loop-node.node-index (omega (arith, c.loop-node-test.false, ap length c.as_slice-node-items.ensures)))

pub returns-clause-bound : goal.returns-clause-bound
returns-clause-bound c = omega (arith, c.loop-node.invariant.bound, c.loop-node.auto.node-index-end, ap length c.as_slice-node-items.ensures, c.requires.this.bounded)
