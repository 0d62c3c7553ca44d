-- One size more.
use Rattle.std.proofs.Common.{◌≡◌, ◌++◌, [], ◌∷◌, length, take, refl, sym, ◌∙◌, ap, arith}
use Rattle.graph_file.specs.declared.graph.Graph.{Graph}
use Rattle.graph_eval.specs.declared.shapes.GraphSize.{GraphSize}
use Rattle.graph_eval.specs.Learned.{size_of, sizes_of}
use Rattle.graph_eval.proofs.Places.{read_at}
use Rattle.graph_eval.proofs.Sizes.{sizes-more}
use Rattle.graph_eval.proofs.shapes.sizes_of.Goals as goal

pub loop-number-preserved : goal.loop-number-preserved
loop-number-preserved c =
    let graphs = c.args.graphs.now in
    let learned = c.args.learned.now in
    let number = c.loop-number.number in
    let graph = c.index-graphs-number.result in
    let entry = c.index-learned-number.result in
    let is = read_at graphs graphs number graph refl (omega (arith, c.loop-number-test.true, c.requires)) c.index-graphs-number.is in
    let entry_is = read_at learned learned number entry refl c.loop-number-test.true c.index-learned-number.is in
    let size : GraphSize = record { inputs = c.len.result; outputs = entry.output } in
    let count : c.len.result ≡ length graph.inputs = c.len.ensures ∙ ap (λ (g : Graph). length g.inputs) (sym c.index-graphs-number.is) in
    let same : size ≡ size_of graph entry = ap (λ n. let s : GraphSize = record { inputs = n; outputs = entry.output } in s) count in
    c.in_ok-push.ensures.items ∙ ap (λ sizes. sizes ++ size ∷ []) c.loop-number.invariant ∙ ap (λ s. sizes_of graphs (take number learned) ++ s ∷ []) same ∙ sym (sizes-more graphs learned number graph entry is entry_is)
