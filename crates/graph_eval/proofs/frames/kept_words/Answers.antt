-- One graph more.
use Rattle.std.proofs.Common.{refl, arith}
use Rattle.graph_eval.proofs.Places.{read_at}
use Rattle.graph_eval.proofs.Framed.{graphs_drop, graphs_past}
use Rattle.graph_eval.proofs.frames.kept_words.Goals as goal

pub graph_kept-own-requires-clause-this : goal.graph_kept-own-requires-clause-this
graph_kept-own-requires-clause-this c =
    let graphs = c.args.graphs.now in
    let learned = c.args.learned.now in
    let index = c.loop-graph.graph-index in
    let graph = c.graph-item.result in
    let is = read_at graphs graphs index graph refl c.loop-graph-test.true c.graph-item.is in
    c.requires.sound.graph index graph is

pub graph_kept-own-requires-clause-calls : goal.graph_kept-own-requires-clause-calls
graph_kept-own-requires-clause-calls c =
    let graphs = c.args.graphs.now in
    let learned = c.args.learned.now in
    let index = c.loop-graph.graph-index in
    let graph = c.graph-item.result in
    let is = read_at graphs graphs index graph refl c.loop-graph-test.true c.graph-item.is in
    λ k node called at some. let below = c.requires.earlier.graph index graph is k node called at some in let within = c.loop-graph-test.true in omega arith

pub overflow_add-kept : goal.overflow_add-kept
overflow_add-kept c = omega (arith, c.loop-graph.invariant.bound, c.graph_kept-own.ensures.bound, c.loop-graph-test.true, c.requires.few)

pub loop-graph-preserved : goal.loop-graph-preserved
loop-graph-preserved c =
    let graphs = c.args.graphs.now in
    let learned = c.args.learned.now in
    let index = c.loop-graph.graph-index in
    let graph = c.graph-item.result in
    let is = read_at graphs graphs index graph refl c.loop-graph-test.true c.graph-item.is in
    record {
      words = omega (arith, c.loop-graph.invariant.words, graphs_drop graphs learned graphs index graph is, c.graph_kept-own.ensures.words);
      bound = omega (arith, c.loop-graph.invariant.bound, c.graph_kept-own.ensures.bound);
    }

pub returns-clause-words : goal.returns-clause-words
returns-clause-words c = omega (arith, c.loop-graph.invariant.words, graphs_past c.args.graphs.now c.args.learned.now c.args.graphs.now c.loop-graph.graph-index (omega (arith, c.loop-graph-test.false)))

pub returns-clause-bound : goal.returns-clause-bound
returns-clause-bound c = omega (arith, c.loop-graph.invariant.bound, c.loop-graph.auto.graph-index-end, c.requires.few)
