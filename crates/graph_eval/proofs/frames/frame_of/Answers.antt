-- A memo keeps the inputs and the output of an earlier graph.
use Rattle.std.proofs.Common.{◌≡◌, ◌+◌, Bool, if◌then◌else◌, length, ◌∙◌, ap, arith}
use Rattle.std.specs.Prelude.{slice_get}
use Rattle.std.proofs.lemmas.Option.{get_or_from_slice_get}
use Rattle.graph_file.specs.Sound.{called_graph}
use Rattle.graph_file.specs.declared.graph.Graph.{Graph}
use Rattle.graph_eval.specs.declared.learned.GraphLearned.{GraphLearned}
use Rattle.graph_eval.specs.Needs.{inputs_at, kept_of, node_kept, output_at}
use Rattle.graph_eval.proofs.Places.{stands}
use Rattle.graph_eval.proofs.frames.frame_of.Goals as goal

pub bounds-graphs-graph : goal.bounds-graphs-graph
bounds-graphs-graph c = c.requires.calls c.in-Memo.graph (ap called_graph c.in-Memo.is)

pub bounds-learned-graph : goal.bounds-learned-graph
bounds-learned-graph c = let below = c.requires.calls c.in-Memo.graph (ap called_graph c.in-Memo.is) in omega (arith, below, c.requires.known)

pub bounds-learned-graph-in-Memo : goal.bounds-learned-graph-in-Memo
bounds-learned-graph-in-Memo c = let below = c.requires.calls c.in-Memo.graph (ap called_graph c.in-Memo.is) in omega (arith, below, c.requires.known)

pub returns-clause-fits : goal.returns-clause-fits
returns-clause-fits c =
    let graphs = c.args.graphs.now in
    let learned = c.args.learned.now in
    let called = c.in-Memo.graph in
    let below = c.requires.calls called (ap called_graph c.in-Memo.is) in
    let graph = stands graphs called below in
    record {
      called = below;
      known = omega (arith, below, c.requires.known);
      inputs = λ g at. c.len.ensures ∙ ap (λ (x : Graph). length x.inputs) (get_or_from_slice_get graphs called g _ at);
      outputs = λ e at. ap (λ (x : GraphLearned). x.output) (get_or_from_slice_get learned called e _ at);
    }

pub returns-clause-words : goal.returns-clause-words
returns-clause-words c =
    let graphs = c.args.graphs.now in
    let learned = c.args.learned.now in
    let node = c.args.node.now in
    let called = c.in-Memo.graph in
    let below = c.requires.calls called (ap called_graph c.in-Memo.is) in
    let graph = stands graphs called below in
    let entry = stands learned called (omega (arith, below, c.requires.known)) in
    let inputs : c.len.result ≡ length graph.0.inputs = c.len.ensures ∙ ap (λ (x : Graph). length x.inputs) (get_or_from_slice_get graphs called graph.0 _ graph.1) in
    let outputs = ap (λ (x : GraphLearned). x.output) (get_or_from_slice_get learned called entry.0 c.index-learned-graph.result entry.1) in
    let kept : node_kept graphs learned node ≡ inputs_at (slice_get graphs called) + output_at (slice_get learned called) =
    ap (λ (b : Bool). if b then kept_of graphs learned node.kind else 0) c.if-not-node.false ∙ ap (kept_of graphs learned) c.in-Memo.is in
    omega (arith, inputs, outputs, kept, ap inputs_at graph.1, ap output_at entry.1)

pub returns-clause-few : goal.returns-clause-few
returns-clause-few c =
    let graphs = c.args.graphs.now in
    let called = c.in-Memo.graph in
    let below = c.requires.calls called (ap called_graph c.in-Memo.is) in
    let graph = stands graphs called below in
    let inputs : c.len.result ≡ length graph.0.inputs = c.len.ensures ∙ ap (λ (x : Graph). length x.inputs) (get_or_from_slice_get graphs called graph.0 _ graph.1) in
    omega (arith, inputs, (c.requires.sound.graph called graph.0 graph.1).few)
