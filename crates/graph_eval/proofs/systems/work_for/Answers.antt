-- Each graph is sound, and the count is at least what it wants.
use Rattle.std.proofs.Common.{refl, arith}
use Rattle.graph_eval.proofs.Places.{read_at}
use Rattle.graph_eval.proofs.Room.{EnoughSoFar-more, enough_all}
use Rattle.graph_eval.proofs.systems.work_for.Goals as goal

pub greatest_work-requires : goal.greatest_work-requires
greatest_work-requires c =
    let is = read_at c.args.graphs.now c.args.graphs.now c.loop-graph.graph-index c.graph-item.result refl c.loop-graph-test.true c.graph-item.is in
    c.requires.graph c.loop-graph.graph-index c.graph-item.result is

pub loop-graph-preserved : goal.loop-graph-preserved
loop-graph-preserved c =
    let is = read_at c.args.graphs.now c.args.graphs.now c.loop-graph.graph-index c.graph-item.result refl c.loop-graph-test.true c.graph-item.is in
    EnoughSoFar-more c.args.graphs.now c.loop-graph.graph-index c.loop-graph.most c.greatest_work.result c.max-most.result c.graph-item.result c.loop-graph.invariant is c.greatest_work.ensures c.max-most.ensures

pub returns : goal.returns
returns c = enough_all c.args.graphs.now c.loop-graph.graph-index c.loop-graph.most _ c.loop-graph.invariant (omega (arith, c.loop-graph-test.false)) c.in_ok-vec.ensures.len
