-- The graph with this number is the next behind those of which something was learned.
use Rattle.std.proofs.Common.{◌≡◌, ℕ, ◌<◌, List, length, refl, sym, ◌∙◌, ap, subst, arith}
use Rattle.std.specs.Prelude.{slice_get}
use Rattle.std.proofs.lemmas.List.Elements.{All-same}
use Rattle.prime_field.specs.Modulus.{value_of}
use Rattle.graph_file.specs.declared.graph.Graph.{Graph}
use Rattle.graph_eval.specs.declared.learned.GraphLearned.{GraphLearned}
use Rattle.graph_eval.specs.Evaluated.{HasInputs}
use Rattle.graph_eval.specs.Fresh.{FitsFresh, IsFresh}
use Rattle.graph_eval.specs.GraphValue.{meanings}
use Rattle.graph_eval.specs.Learned.{AreGraphs, CallEarlier, sets_of, sizes_of}
use Rattle.graph_eval.specs.declared.shapes.GraphSize.{GraphSize}
use Rattle.graph_eval.proofs.Fitting.{fits_known}
use Rattle.graph_eval.proofs.Places.{read_at}
use Rattle.graph_eval.proofs.Working.{point_low}
use Rattle.graph_eval.proofs.fresh.fresh_point.Goals as goal

pub tables_of-requires-clause-sound : goal.tables_of-requires-clause-sound
tables_of-requires-clause-sound c = subst AreGraphs (sym c.as_slice-graphs.ensures) (record { graph = c.args.job.now.sound.graph })

pub tables_of-requires-clause-within : goal.tables_of-requires-clause-within
tables_of-requires-clause-within c = omega (arith, ap length c.all-known.ensures, c.requires.before.many, c.requires.there, ap length c.as_slice-graphs.ensures)

pub tables_of-requires-clause-fits : goal.tables_of-requires-clause-fits
tables_of-requires-clause-fits c = fits_known c.args.job.now.graphs c.args.learned.now c.as_slice-graphs.result.now c.all-known.result.now c.as_slice-graphs.ensures c.all-known.ensures c.requires.before

pub words_of_each-wanted-requires-clause-sound : goal.words_of_each-wanted-requires-clause-sound
words_of_each-wanted-requires-clause-sound c = subst AreGraphs (sym c.as_slice-graphs.ensures) (record { graph = c.args.job.now.sound.graph })

pub words_of_each-wanted-requires-clause-earlier : goal.words_of_each-wanted-requires-clause-earlier
words_of_each-wanted-requires-clause-earlier c = subst CallEarlier (sym c.as_slice-graphs.ensures) (record { graph = c.args.job.now.sound.calls })

pub words_of_each-wanted-requires-clause-few : goal.words_of_each-wanted-requires-clause-few
words_of_each-wanted-requires-clause-few c = omega (arith, ap length c.all-known.ensures, c.requires.before.many, c.requires.there, c.args.job.now.sound.bounded)

pub words_of_each-wanted-requires-clause-within : goal.words_of_each-wanted-requires-clause-within
words_of_each-wanted-requires-clause-within c = omega (arith, ap length c.all-known.ensures, c.requires.before.many, c.requires.there, ap length c.as_slice-graphs.ensures)

pub words_of_each-wanted-requires-clause-fits : goal.words_of_each-wanted-requires-clause-fits
words_of_each-wanted-requires-clause-fits c = fits_known c.args.job.now.graphs c.args.learned.now c.as_slice-graphs.result.now c.all-known.result.now c.as_slice-graphs.ensures c.all-known.ensures c.requires.before

pub learn_graph-requires-clause-sound : goal.learn_graph-requires-clause-sound
learn_graph-requires-clause-sound c = subst AreGraphs (sym c.as_slice-graphs.ensures) (record { graph = c.args.job.now.sound.graph })

pub learn_graph-requires-clause-earlier : goal.learn_graph-requires-clause-earlier
learn_graph-requires-clause-earlier c = subst CallEarlier (sym c.as_slice-graphs.ensures) (record { graph = c.args.job.now.sound.calls })

pub learn_graph-requires-clause-fits : goal.learn_graph-requires-clause-fits
learn_graph-requires-clause-fits c = fits_known c.args.job.now.graphs c.args.learned.now c.as_slice-graphs.result.now c.all-known.result.now c.as_slice-graphs.ensures c.all-known.ensures c.requires.before

pub sizes_of-requires : goal.sizes_of-requires
sizes_of-requires c = omega (arith, ap length c.all-known.ensures, c.requires.before.many, c.requires.there, ap length c.as_slice-graphs.ensures)

pub work_for-requires : goal.work_for-requires
work_for-requires c = subst AreGraphs (sym c.as_slice-graphs.ensures) (record { graph = c.args.job.now.sound.graph })

pub learn_graph-requires-clause-many : goal.learn_graph-requires-clause-many
learn_graph-requires-clause-many c = omega (arith, ap length c.all-known.ensures, c.requires.before.many, c.requires.there, c.args.job.now.sound.bounded)

pub learn_graph-requires-clause-is : goal.learn_graph-requires-clause-is
learn_graph-requires-clause-is c =
    let shown = c.as_slice-graphs.result.now in
    let is = read_at shown shown c.args.graph c.index-graphs-graph.result refl (omega (arith, ap length c.as_slice-graphs.ensures, c.requires.there)) c.index-graphs-graph.is in
    ap (slice_get shown) (ap length c.all-known.ensures ∙ c.requires.before.many) ∙ is

pub learn_graph-requires-clause-sizes_are : goal.learn_graph-requires-clause-sizes_are
learn_graph-requires-clause-sizes_are c = c.as_slice-2.ensures.value ∙ c.in_ok-sizes.ensures

pub returns-clause-fresh : goal.returns-clause-fresh
returns-clause-fresh c = λ prime.
    let m = value_of c.args.m in
    let graphs = c.args.job.now.graphs in
    let learned = c.args.learned.now in
    let shown = c.as_slice-graphs.result.now in
    let known = c.all-known.result.now in
    let graph = c.index-graphs-graph.result in
    let answer = c.in_ok-learn_graph.field-0 in
    let sizes_are : c.as_slice-2.result.now ≡ sizes_of shown known = c.as_slice-2.ensures.value ∙ c.in_ok-sizes.ensures in
    let fresh = subst (λ (point : List ℕ). IsFresh m (meanings m shown (sets_of known) (length known)) c.as_slice-2.result.now graph point answer) c.entries-inputs.ensures.value (c.in_ok-learn_graph.ensures.fresh prime) in
    let sized = subst (λ (sizes : List GraphSize). IsFresh m (meanings m shown (sets_of known) (length known)) sizes graph c.args.point.now answer) sizes_are fresh in
    let filed = subst (λ (gs : List Graph). IsFresh m (meanings m gs (sets_of known) (length known)) (sizes_of gs known) graph c.args.point.now answer) c.as_slice-graphs.ensures sized in
    let all = subst (λ (ls : List GraphLearned). IsFresh m (meanings m graphs (sets_of ls) (length ls)) (sizes_of graphs ls) graph c.args.point.now answer) c.all-known.ensures filed in (
      graph,
      read_at shown graphs c.args.graph graph c.as_slice-graphs.ensures (omega (arith, ap length c.as_slice-graphs.ensures, c.requires.there)) c.index-graphs-graph.is,
      subst (λ (n : ℕ). IsFresh m (meanings m graphs (sets_of learned) n) (sizes_of graphs learned) graph c.args.point.now answer) c.requires.before.many all,
    )

pub returns-clause-fits : goal.returns-clause-fits
returns-clause-fits c =
    let graphs = c.args.job.now.graphs in
    let learned = c.args.learned.now in
    let graph = c.index-graphs-graph.result in
    let sizes_are : c.as_slice-2.result.now ≡ sizes_of graphs learned = c.as_slice-2.ensures.value ∙ c.in_ok-sizes.ensures ∙ ap (λ gs. sizes_of gs c.all-known.result.now) c.as_slice-graphs.ensures ∙ ap (sizes_of graphs) c.all-known.ensures in (
      graph,
      read_at c.as_slice-graphs.result.now graphs c.args.graph graph c.as_slice-graphs.ensures (omega (arith, ap length c.as_slice-graphs.ensures, c.requires.there)) c.index-graphs-graph.is,
      subst (λ (sizes : List GraphSize). FitsFresh sizes graph c.in_ok-learn_graph.field-0) sizes_are c.in_ok-learn_graph.ensures.fits,
    )

pub learn_graph-requires-clause-residues : goal.learn_graph-requires-clause-residues
learn_graph-requires-clause-residues c = All-same (λ x. x < value_of c.args.m) _ _ c.entries-inputs.ensures.value (point_low c.args.m c.args.point.now c.entries-inputs.ensures.point)

pub learn_graph-requires-clause-entries : goal.learn_graph-requires-clause-entries
learn_graph-requires-clause-entries c =
    let is = read_at c.as_slice-graphs.result.now c.args.job.now.graphs c.args.graph c.index-graphs-graph.result c.as_slice-graphs.ensures (omega (arith, ap length c.as_slice-graphs.ensures, c.requires.there)) c.index-graphs-graph.is in
    let long : length c.args.point.now ≡ length c.index-graphs-graph.result.inputs = subst (λ o. HasInputs o c.args.point.now) is c.requires.entries in
    ap length c.entries-inputs.ensures.value ∙ long
