use Rattle.std.proofs.Common.{◌<◌, ◌+◌, ◌%◌, ap, sym, ◌∙◌, subst}
use Rattle.prime_field.specs.Modulus.{value_of}
use Rattle.poly_maps.specs.Mono.{mono_value}
use Rattle.poly_maps.specs.Polynomial.{AreResidues}
use Rattle.poly_maps.proofs.Terms.{residue-at}
use Rattle.poly_maps.proofs.PowerLemmas.{value_more}
use Rattle.poly_maps.proofs.poly.Poly.value.Goals as goal

pub mul-requires-clause-left : goal.mul-requires-clause-left
mul-requires-clause-left c =
    let residues = subst (AreResidues (value_of c.args.m)) (sym (c.deref-term-items.ensures.value ∙ c.self.view_is)) c.requires in
    subst (λ t. t.1 < value_of c.args.m) (sym c.term-item.is) (residue-at _ c.deref-term-items.result.now c.loop-term.term-index c.term-item.result residues c.loop-term-test.true)

pub loop-term-preserved : goal.loop-term-preserved
loop-term-preserved c =
    let here = c.value.ensures.value ∙ ap (λ v. v % value_of c.of-powers.result.modulus) (c.of-powers.ensures.values c.term-item.result.0) ∙ ap (λ m. mono_value c.term-item.result.0 c.args.point.now % value_of m) c.of-powers.ensures.modulus in
    let added = c.add-sum.ensures.sum ∙ ap (λ n. (c.loop-term.sum + n) % value_of c.args.m) c.mul.ensures.product in
    value_more (value_of c.args.m) c.deref-term-items.result.now c.args.point.now c.loop-term.term-index c.term-item.result c.loop-term.sum c.value.result c.add-sum.result c.loop-term-test.true c.term-item.is here added c.loop-term.invariant
