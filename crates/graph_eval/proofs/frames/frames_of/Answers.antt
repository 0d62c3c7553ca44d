-- One graph more.
use Rattle.std.proofs.Common.{refl, sym, subst, arith}
use Rattle.graph_eval.proofs.Places.{read_at}
use Rattle.graph_eval.specs.Memos.{AreFrames}
use Rattle.graph_eval.specs.declared.memos.MemoFrame.{MemoFrame}
use Rattle.std.proofs.Common.{List}
use Rattle.graph_eval.proofs.Framed.{frames_none, graphs_drop, graphs_past}
use Rattle.graph_eval.proofs.frames.frames_of.Goals as goal

pub loop-graph-init : goal.loop-graph-init
loop-graph-init c = record {
  frames = subst (λ (fs : List MemoFrame). AreFrames c.args.graphs.now c.args.learned.now fs 0) (sym c.new-frames.ensures.items) (frames_none c.args.graphs.now c.args.learned.now);
  words = omega arith;
  bound = omega arith;
}

pub add_frames-requires-clause-this : goal.add_frames-requires-clause-this
add_frames-requires-clause-this c =
    let graphs = c.args.graphs.now in
    let learned = c.args.learned.now in
    let index = c.loop-graph.graph-index in
    let graph = c.graph-item.result in
    let is = read_at graphs graphs index graph refl c.loop-graph-test.true c.graph-item.is in
    c.requires.sound.graph index graph is

pub add_frames-requires-clause-calls : goal.add_frames-requires-clause-calls
add_frames-requires-clause-calls c =
    let graphs = c.args.graphs.now in
    let learned = c.args.learned.now in
    let index = c.loop-graph.graph-index in
    let graph = c.graph-item.result in
    let is = read_at graphs graphs index graph refl c.loop-graph-test.true c.graph-item.is in
    λ k node called at some. let below = c.requires.earlier.graph index graph is k node called at some in let within = c.loop-graph-test.true in omega arith

pub add_frames-requires-clause-low : goal.add_frames-requires-clause-low
add_frames-requires-clause-low c = omega (arith, c.loop-graph.invariant.bound, c.loop-graph-test.true, c.requires.few)

pub loop-graph-preserved : goal.loop-graph-preserved
loop-graph-preserved c =
    let graphs = c.args.graphs.now in
    let learned = c.args.learned.now in
    let index = c.loop-graph.graph-index in
    let graph = c.graph-item.result in
    let is = read_at graphs graphs index graph refl c.loop-graph-test.true c.graph-item.is in
    record {
      frames = c.in_ok-own.ensures.frames;
      words = omega (arith, c.loop-graph.invariant.words, graphs_drop graphs learned graphs index graph is, c.in_ok-own.ensures.words);
      bound = omega (arith, c.loop-graph.invariant.bound, c.in_ok-own.ensures.bound);
    }

pub returns : goal.returns
returns c =
    let all = graphs_past c.args.graphs.now c.args.learned.now c.args.graphs.now c.loop-graph.graph-index (omega (arith, c.loop-graph-test.false)) in
    subst (AreFrames c.args.graphs.now c.args.learned.now c.loop-graph.frames.items) (omega (arith, c.loop-graph.invariant.words, all)) c.loop-graph.invariant.frames
