use Rattle.std.proofs.Common.{◌≡◌, ◌<◌, ◌%◌, ◌++◌, ℕ, List, ap, ◌∙◌, sym, subst, arith}
use Rattle.std.proofs.lemmas.List.{take_all}
use Rattle.std.proofs.lemmas.Result.{IfOk-weaker}
use Rattle.prime_field.specs.Modulus.{value_of}
use Rattle.prime_field.proofs.Moduli.{value_of-large}
use Rattle.poly_maps.specs.Mono.{degree}
use Rattle.poly_maps.specs.Polynomial.{coefficient, total_degree, product_of, reduced, term_times, AreResidues}
use Rattle.poly_maps.proofs.Terms.{residue-at}
use Rattle.poly_maps.proofs.Gathered.{degree-at, rows_more, AreResidues-reduced, coefficient-reduced}
use Rattle.poly_maps.proofs.poly.Poly.product.Goals as goal

pub push_products-requires-clause-degrees : goal.push_products-requires-clause-degrees
push_products-requires-clause-degrees c = λ k d low.
    let left = degree-at c.deref-term-items.result.now c.loop-term.term-index c.term-item.result c.loop-term-test.true in
    let right = degree-at c.deref.result.now k d low in
    omega (arith, left, right, ap (λ t. degree t.0) c.term-item.is, ap total_degree (c.deref-term-items.ensures.value ∙ c.self.view_is), ap total_degree (c.deref.ensures.value ∙ c.other.view_is), c.requires.degrees)

pub push_products-requires-clause-left : goal.push_products-requires-clause-left
push_products-requires-clause-left c =
    let residues = subst (AreResidues (value_of c.args.m)) (sym (c.deref-term-items.ensures.value ∙ c.self.view_is)) c.requires.left in
    subst (λ t. t.1 < value_of c.args.m) (sym c.term-item.is) (residue-at _ c.deref-term-items.result.now c.loop-term.term-index c.term-item.result residues c.loop-term-test.true)

pub loop-term-preserved : goal.loop-term-preserved
loop-term-preserved c =
    let more = rows_more (value_of c.args.m) c.deref-term-items.result.now c.other.inside.terms.items c.loop-term.products.items c.term-item.result c.loop-term.term-index c.loop-term-test.true c.term-item.is c.loop-term.invariant in
    c.in_ok-push_products.ensures ∙ ap (λ q. c.loop-term.products.items ++ reduced (value_of c.args.m) (term_times c.term-item.result q)) c.deref.ensures.value ∙ more

pub from_terms-requires : goal.from_terms-requires
from_terms-requires c =
    subst (AreResidues (value_of c.args.m)) (sym c.loop-term.invariant) (AreResidues-reduced _ _ (omega (arith, value_of-large c.args.m)))

pub returns-clause-product : goal.returns-clause-product
returns-clause-product c =
    let left = take_all c.loop-term.term-index c.deref-term-items.result.now c.loop-term-test.false ∙ c.deref-term-items.ensures.value ∙ c.self.view_is in
    let whole = c.loop-term.invariant ∙ ap (λ p. reduced (value_of c.args.m) (product_of p c.other.inside.terms.items)) left ∙ ap (λ q. reduced (value_of c.args.m) (product_of c.args.self.now q)) c.other.view_is in
    IfOk-weaker c.from_terms.result (λ p. (e : List ℕ) → coefficient e p ≡ coefficient e c.loop-term.products.items % value_of c.args.m) _ (λ p sum e. sum e ∙ ap (λ q. coefficient e q % value_of c.args.m) whole ∙ coefficient-reduced (value_of c.args.m) e (product_of c.args.self.now c.args.other.now)) c.from_terms.ensures.sum
