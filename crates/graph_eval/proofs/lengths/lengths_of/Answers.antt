-- The graph with this number is sound, as each graph of a job is.
use Rattle.std.proofs.Common.{◌≡◌, List, length, sym, ◌∙◌, ap, subst, arith}
use Rattle.graph_eval.specs.Fresh.{IsMeasured}
use Rattle.graph_eval.specs.Learned.{AreFew, sizes_of}
use Rattle.graph_eval.specs.declared.shapes.GraphSize.{GraphSize}
use Rattle.graph_eval.proofs.Places.{read_at}
use Rattle.graph_eval.proofs.ShapeLaws.{sizes_few}
use Rattle.graph_eval.proofs.lengths.lengths_of.Goals as goal

pub graph_lengths-requires-clause-sound : goal.graph_lengths-requires-clause-sound
graph_lengths-requires-clause-sound c =
    c.args.job.now.sound.graph c.args.graph c.index-graphs-graph.result
    (read_at c.as_slice-graphs.result.now c.args.job.now.graphs c.args.graph c.index-graphs-graph.result c.as_slice-graphs.ensures (omega (arith, ap length c.as_slice-graphs.ensures, c.requires.there)) c.index-graphs-graph.is)

pub graph_lengths-requires-clause-sizes : goal.graph_lengths-requires-clause-sizes
graph_lengths-requires-clause-sizes c =
    let sizes_are : c.as_slice.result.now ≡ sizes_of c.args.job.now.graphs c.all.result.now = c.as_slice.ensures.value ∙ c.in_ok-sizes.ensures ∙ ap (λ gs. sizes_of gs c.all.result.now) c.as_slice-graphs.ensures in
    subst AreFew (sym sizes_are) (sizes_few c.args.job.now.graphs c.all.result.now c.args.job.now.sound.graph)

pub graph_lengths-requires-clause-plain : goal.graph_lengths-requires-clause-plain
graph_lengths-requires-clause-plain c =
    c.requires.plain c.index-graphs-graph.result
    (read_at c.as_slice-graphs.result.now c.args.job.now.graphs c.args.graph c.index-graphs-graph.result c.as_slice-graphs.ensures (omega (arith, ap length c.as_slice-graphs.ensures, c.requires.there)) c.index-graphs-graph.is)

pub returns : goal.returns
returns c =
    let graphs = c.args.job.now.graphs in
    let learned = c.args.learned.now in
    let sizes_are : c.as_slice.result.now ≡ sizes_of graphs learned = c.as_slice.ensures.value ∙ c.in_ok-sizes.ensures ∙ ap (λ gs. sizes_of gs c.all.result.now) c.as_slice-graphs.ensures ∙ ap (sizes_of graphs) c.all.ensures in (
      c.index-graphs-graph.result,
      read_at c.as_slice-graphs.result.now graphs c.args.graph c.index-graphs-graph.result c.as_slice-graphs.ensures (omega (arith, ap length c.as_slice-graphs.ensures, c.requires.there)) c.index-graphs-graph.is,
      subst (λ (sizes : List GraphSize). IsMeasured sizes c.index-graphs-graph.result c.in_ok-graph_lengths.field-0) sizes_are c.in_ok-graph_lengths.ensures,
    )
