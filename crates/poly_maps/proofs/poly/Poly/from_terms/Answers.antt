use Rattle.std.proofs.Common.{◌<◌, ◌%◌, ap, ◌∙◌, sym, subst}
use Rattle.std.proofs.lemmas.List.{take_all}
use Rattle.prime_field.specs.Modulus.{value_of}
use Rattle.poly_maps.specs.Polynomial.{coefficient, AreResidues}
use Rattle.poly_maps.proofs.Terms.{residue-at}
use Rattle.poly_maps.proofs.Gathered.{AreResidues-permutation, coefficient-permutation, coefficient-take_more, sum_more}
use Rattle.poly_maps.proofs.poly.Poly.from_terms.Goals as goal

pub add_term-requires-clause-residue : goal.add_term-requires-clause-residue
add_term-requires-clause-residue c =
    let residues = AreResidues-permutation (value_of c.args.m) c.args.terms.items c.sort_unstable_by.new.self.items c.sort_unstable_by.ensures.permutation c.requires in
    let here = subst (AreResidues (value_of c.args.m)) (sym c.deref-term-items.ensures.value) residues in
    subst (λ t. t.1 < value_of c.args.m) (sym c.term-item.is) (residue-at _ c.deref-term-items.result.now c.loop-term.term-index c.term-item.result here c.loop-term-test.true)

pub loop-term-preserved : goal.loop-term-preserved
loop-term-preserved c =
    (c.in_ok-add_term.ensures.residues, λ e. sum_more _ _ _ _ _ (c.loop-term.invariant.1 e) (c.in_ok-add_term.ensures.sum e) ∙ ap (λ n. n % value_of c.args.m) (sym (coefficient-take_more e c.deref-term-items.result.now c.loop-term.term-index c.term-item.result c.loop-term-test.true c.term-item.is)))

pub returns-clause-sum : goal.returns-clause-sum
returns-clause-sum c = λ e.
    c.loop-term.invariant.1 e ∙ ap (λ p. coefficient e p % value_of c.args.m) (take_all c.loop-term.term-index c.deref-term-items.result.now c.loop-term-test.false ∙ c.deref-term-items.ensures.value) ∙
    ap (λ n. n % value_of c.args.m) (coefficient-permutation e c.args.terms.items c.sort_unstable_by.new.self.items c.sort_unstable_by.ensures.permutation)
