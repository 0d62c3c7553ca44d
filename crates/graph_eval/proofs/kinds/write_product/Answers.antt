-- The first list begins the products, and each part behind it joins them.
use Rattle.std.proofs.Common.{◌+◌, ◌<◌, [], ◌∷◌, length, get_or, sym, ◌∙◌, ap, subst, arith}
use Rattle.std.proofs.lemmas.List.Elements.{All-get_or, All-same}
use Rattle.prime_field.specs.Modulus.{value_of}
use Rattle.graph_file.specs.declared.graph.Source.TheVariants as source
use Rattle.basic_nodes.specs.Plain.{multiplied}
use Rattle.graph_eval.specs.Reading.{HasLength, IsThere, placed}
use Rattle.graph_eval.proofs.Writing.{behind_below, behind_first, placed_residues, product_first, product_next}
use Rattle.graph_eval.proofs.kinds.write_product.Goals as goal

pub loop-part-init : goal.loop-part-init
loop-part-init c =
    let m = value_of c.args.m in
    let is = c.copy_from_slice.ensures.after ∙ c.placed.ensures in
    let low = All-same (λ x. x < m) _ _ is (placed_residues m c.args.words.now c.args.places.now (get_or c.args.parts.now 0 source.Input) c.requires.residues) in
    record { product = product_first m (placed c.args.words.now c.args.places.now) c.args.parts.now source.Input _ c.requires.some is low; residues = low }

pub placed-requires-in-loop-part : goal.placed-requires-in-loop-part
placed-requires-in-loop-part c =
    subst (IsThere c.args.words.now c.args.places.now) (sym (behind_first c.args.parts.now c.loop-part.part-index source.Input c.loop-part-test.true))
    (All-get_or (IsThere c.args.words.now c.args.places.now) c.args.parts.now (c.loop-part.part-index + 1) source.Input (behind_below c.args.parts.now c.loop-part.part-index c.loop-part-test.true) c.requires.there)

pub product_into-requires-clause-lengths : goal.product_into-requires-clause-lengths
product_into-requires-clause-lengths c =
    let same = All-get_or (HasLength c.args.words.now c.args.places.now (length c.args.out.now)) c.args.parts.now (c.loop-part.part-index + 1) source.Input (behind_below c.args.parts.now c.loop-part.part-index c.loop-part-test.true) c.requires.same in
    let is = c.placed-in-loop-part.ensures ∙ ap (placed c.args.words.now c.args.places.now) (behind_first c.args.parts.now c.loop-part.part-index source.Input c.loop-part-test.true) in
    ap length is ∙ same ∙ omega arith

pub product_into-requires-clause-factors : goal.product_into-requires-clause-factors
product_into-requires-clause-factors c =
    let m = value_of c.args.m in
    let is = c.placed-in-loop-part.ensures ∙ ap (placed c.args.words.now c.args.places.now) (behind_first c.args.parts.now c.loop-part.part-index source.Input c.loop-part-test.true) in
    All-same (λ x. x < m) _ _ is (placed_residues m c.args.words.now c.args.places.now (get_or c.args.parts.now (c.loop-part.part-index + 1) source.Input) c.requires.residues)

pub loop-part-preserved : goal.loop-part-preserved
loop-part-preserved c =
    let list = placed c.args.words.now c.args.places.now in
    let m = value_of c.args.m in
    let is = c.placed-in-loop-part.ensures ∙ ap list (behind_first c.args.parts.now c.loop-part.part-index source.Input c.loop-part-test.true) in
    record {
      product = product_next m list c.args.parts.now c.loop-part.part-index source.Input c.loop-part.out _ (behind_below c.args.parts.now c.loop-part.part-index c.loop-part-test.true) c.loop-part.invariant.product (c.product_into.ensures.product ∙ ap (λ xs. multiplied m (c.loop-part.out ∷ xs ∷ [])) is);
      residues = c.product_into.ensures.residues;
    }
