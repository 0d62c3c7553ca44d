-- One table more.
use Rattle.std.proofs.Common.{length, refl, sym, ◌∙◌, ap, arith}
use Rattle.graph_file.specs.declared.graph.Graph.{Graph}
use Rattle.graph_eval.specs.Reading.{places_of}
use Rattle.graph_eval.proofs.Places.{read_at}
use Rattle.graph_eval.proofs.Tables.{tables_all, tables_more}
use Rattle.graph_eval.proofs.needs.tables_of.Goals as goal

pub places_of-requires-clause-few_inputs : goal.places_of-requires-clause-few_inputs
places_of-requires-clause-few_inputs c =
    let graph = c.index-graphs-number.result in
    let entry = c.index-learned-number.result in
    let is = read_at c.args.graphs.now c.args.graphs.now c.loop-number.number graph refl (omega (arith, c.loop-number-test.true, c.requires.within)) c.index-graphs-number.is in
    let entry_is = read_at c.args.learned.now c.args.learned.now c.loop-number.number entry refl c.loop-number-test.true c.index-learned-number.is in
    omega (arith, c.len.ensures, ap (λ (g : Graph). length g.inputs) c.index-graphs-number.is, (c.requires.sound.graph c.loop-number.number graph is).few)

pub places_of-requires-clause-few : goal.places_of-requires-clause-few
places_of-requires-clause-few c =
    let graph = c.index-graphs-number.result in
    let entry = c.index-learned-number.result in
    let is = read_at c.args.graphs.now c.args.graphs.now c.loop-number.number graph refl (omega (arith, c.loop-number-test.true, c.requires.within)) c.index-graphs-number.is in
    let entry_is = read_at c.args.learned.now c.args.learned.now c.loop-number.number entry refl c.loop-number-test.true c.index-learned-number.is in
    omega (arith, ap length (c.as_slice-lengths.ensures), (c.requires.fits.each c.loop-number.number graph entry is entry_is).all, (c.requires.sound.graph c.loop-number.number graph is).bounded)

pub loop-number-preserved : goal.loop-number-preserved
loop-number-preserved c =
    let graph = c.index-graphs-number.result in
    let entry = c.index-learned-number.result in
    let is = read_at c.args.graphs.now c.args.graphs.now c.loop-number.number graph refl (omega (arith, c.loop-number-test.true, c.requires.within)) c.index-graphs-number.is in
    let entry_is = read_at c.args.learned.now c.args.learned.now c.loop-number.number entry refl c.loop-number-test.true c.index-learned-number.is in
    tables_more c.args.graphs.now c.args.learned.now c.loop-number.tables c.push.new.self c.loop-number.number graph entry c.in_ok-places_of.field-0 c.loop-number.invariant is entry_is
    (c.in_ok-places_of.ensures ∙ ap (λ n. places_of n c.as_slice-lengths.result.now) (c.len.ensures ∙ ap (λ (g : Graph). length g.inputs) (sym c.index-graphs-number.is)) ∙ ap (places_of (length graph.inputs)) (c.as_slice-lengths.ensures)) c.in_ok-push.ensures.ok

pub returns : goal.returns
returns c = tables_all c.args.graphs.now c.args.learned.now c.loop-number.tables c.loop-number.number c.loop-number.invariant (omega (arith, c.loop-number-test.false, c.loop-number.auto.number-end))
