use Rattle.std.proofs.Common.{◌≡◌, ◌<◌, ◌+◌, ◌-◌, ◌*◌, ◌%◌, ◌∷◌, ℕ, suc, length, take, drop, slice_index, refl, ap, ◌∙◌, sym, subst, arith, inl, inr, add-one}
use Rattle.std.proofs.lemmas.Bool.{cases_eq, false≢true}
use Rattle.std.proofs.lemmas.List.{take_rest}
use Rattle.std.proofs.lemmas.Int.{to_z-of_z}
use Rattle.prime_field.specs.Modulus.{value_of}
use Rattle.prime_field.proofs.Moduli.{value_of-large}
use Rattle.univariate.specs.Coefficients.{product_of}
use Rattle.laurent_node.specs.Expansion.{place, numerator_at, IsExpansion}
use Rattle.laurent_node.proofs.Expansions.{least_same, terms-expand, none-expand}
use Rattle.laurent_node.proofs.expand.Goals as goal

pub returns-then-not-vanishes_before-clause-pole : goal.returns-then-not-vanishes_before-clause-pole
returns-then-not-vanishes_before-clause-pole c prime e least numbers same expansion =
    let m = value_of c.args.m in
    let num = c.args.num.now in
    let den = c.args.den.now in
    let exponent : e ≡ c.least_exponent-least.result = least_same den e c.least_exponent-least.result least c.least_exponent-least.ensures in
    let start : c.place_of.result ≡ place c.args.lo = c.place_of.ensures ∙ ap place (to_z-of_z _ c.args.lo c.ranges.lo) in
    false≢true
    (c.if-not-vanishes_before.ensures.1
    (λ k low.
    elim (cases_eq (slice_index num k) 0) [
      | inl none ↦ none
      | inr some ↦ absurd (none-expand m num den e (place c.args.lo) numbers k c.requires.num least (omega arith) some expansion)
    ]))

pub returns-in-Some-clause-ok : goal.returns-in-Some-clause-ok
returns-in-Some-clause-ok c e least =
    let m = value_of c.args.m in
    let num = c.args.num.now in
    let den = c.args.den.now in
    let out = c.write_expansion.new.out in
    let exponent = c.least_exponent-least.result in
    let first = c.place_of.result in
    let large : 1 < m = value_of-large c.args.m in
    let same : exponent ≡ e = sym (least_same den e exponent least c.least_exponent-least.ensures) in
    let start : first ≡ place c.args.lo = c.place_of.ensures ∙ ap place (to_z-of_z _ c.args.lo c.ranges.lo) in
    let tail : take (length den - (exponent + 1)) (drop (exponent + 1) den) ≡ drop (suc exponent) den = take_rest den (exponent + 1) ∙ ap (λ k. drop k den) (add-one exponent) in
    subst (λ (k : ℕ). IsExpansion m num den k (place c.args.lo) out) same
    (subst (λ (k : ℕ). IsExpansion m num den exponent k out) start
    (terms-expand m num den exponent first c.in-Some.inverse out (omega arith) c.least_exponent-least.ensures
    (c.if-not-vanishes_before.ensures.0 refl)
    c.in-Some.ensures.inverse c.write_expansion.ensures.residues
    (λ i low.
    c.write_expansion.ensures.terms i low ∙
    ap (λ q. ((numerator_at num (first + exponent + i) + (m - slice_index (0 ∷ product_of q (take i out)) i % m)) * c.in-Some.inverse) % m) tail)))

pub overflow_sub-count : goal.overflow_sub-count
overflow_sub-count c =
    let end : c.place_of-in-Some.result ≡ place c.args.hi = c.place_of-in-Some.ensures ∙ ap place (to_z-of_z _ c.args.hi c.ranges.hi) in
    let start : c.place_of-in-Some-2.result ≡ place c.args.lo = c.place_of-in-Some-2.ensures ∙ ap place (to_z-of_z _ c.args.lo c.ranges.lo) in
    omega arith

pub write_expansion-requires-clause-count : goal.write_expansion-requires-clause-count
write_expansion-requires-clause-count c =
    let end : c.place_of-in-Some.result ≡ place c.args.hi = c.place_of-in-Some.ensures ∙ ap place (to_z-of_z _ c.args.hi c.ranges.hi) in
    let start : c.place_of-in-Some-2.result ≡ place c.args.lo = c.place_of-in-Some-2.ensures ∙ ap place (to_z-of_z _ c.args.lo c.ranges.lo) in
    omega arith
