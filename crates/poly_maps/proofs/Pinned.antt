-- Coefficients pin a polynomial; its first monomial is the greatest; values of products.
use Rattle.std.proofs.Common.{◌≡◌, ◌≢◌, ℕ, ◌*◌, if◌then◌else◌, ◌⊎◌, inl, inr, Some, List, [], ◌∷◌, refl, sym, ap, ◌∙◌, arith}
use Rattle.std.specs.declared.cmp.Ordering.{Ordering}
use Rattle.std.specs.declared.cmp.Ordering.TheVariants.{Less, Equal, Greater}
use Rattle.poly_maps.specs.Mono.{mono_cmp, is_same, mono_product, mono_value}
use Rattle.poly_maps.specs.Polynomial.{coefficient, value_at, AreLess, IsNormal, term_times, product_of, leading}
use Rattle.poly_maps.proofs.MonoLemmas.{mono_tied, mono_flip, is_same-itself, mono_value-mono_product}
use Rattle.poly_maps.proofs.Terms.{AreLess-trans, coefficient-less, value_at-append}

-- ---- the same coefficients, the same polynomial

pub first-coefficient : (t : List ℕ × ℕ) (p : List (List ℕ × ℕ)) → AreLess p t.0 → coefficient t.0 (t ∷ p) ≡ t.1
first-coefficient t p less =
    let here : (if is_same t.0 t.0 then t.1 else 0) ≡ t.1 = ap (λ b. if b then t.1 else 0) (is_same-itself t.0) in
    omega (arith, here, coefficient-less p t.0 less)

-- a polynomial whose first monomial is below e has no term at e
no_coefficient : (t : List ℕ × ℕ) (p : List (List ℕ × ℕ)) (e : List ℕ) → AreLess p t.0 → mono_cmp t.0 e ≡ Less → coefficient e (t ∷ p) ≡ 0
no_coefficient t p e less below = coefficient-less (t ∷ p) e (below, AreLess-trans p t.0 e less below)

pub same_map : (p q : List (List ℕ × ℕ)) → IsNormal p → IsNormal q → ((e : List ℕ) → coefficient e p ≡ coefficient e q) → p ≡ q
same_map [] [] normal normal' same = refl
same_map [] (u ∷ q) normal normal' same = absurd (normal'.0 (sym (first-coefficient u q normal'.1) ∙ sym (same u.0)))
same_map (t ∷ p) [] normal normal' same = absurd (normal.0 (sym (first-coefficient t p normal.1) ∙ same t.0))
same_map (t ∷ p) (u ∷ q) normal normal' same = by (mono_cmp t.0 u.0) refl (same_map p q normal.2 normal'.2)
  where
    by : (o : Ordering) → mono_cmp t.0 u.0 ≡ o → (((e : List ℕ) → coefficient e p ≡ coefficient e q) → p ≡ q) → (t ∷ p) ≡ (u ∷ q)
    by Less below rest = absurd (normal'.0 (sym (first-coefficient u q normal'.1) ∙ sym (same u.0) ∙ no_coefficient t p u.0 normal.1 below))
    by Greater above rest = absurd (normal.0 (sym (first-coefficient t p normal.1) ∙ same t.0 ∙ no_coefficient u q t.0 normal'.1 (mono_flip t.0 u.0 above)))
    by Equal tied rest =
        let mono : t.0 ≡ u.0 = mono_tied t.0 u.0 tied in
        let factor : t.1 ≡ u.1 = sym (first-coefficient t p normal.1) ∙ same t.0 ∙ ap (λ e. coefficient e (u ∷ q)) mono ∙ first-coefficient u q normal'.1 in
        let first : (e : List ℕ) → (if is_same t.0 e then t.1 else 0) ≡ (if is_same u.0 e then u.1 else 0) = λ e i. if is_same (mono i) e then factor i else 0 in
        let tail : (e : List ℕ) → coefficient e p ≡ coefficient e q = λ e. omega (arith, same e, first e) in
        λ i. (mono i, factor i) ∷ rest tail i

-- the first monomial of a normal polynomial has a coefficient
pub leading_some : (p : List (List ℕ × ℕ)) (e : List ℕ) → IsNormal p → leading p ≡ Some e → coefficient e p ≢ 0
leading_some [] e normal is none = cc
leading_some (t ∷ p) e normal is none =
    let first : t.0 ≡ e = cc in
    normal.0 (sym (first-coefficient t p normal.1) ∙ ap (λ f. coefficient f (t ∷ p)) first ∙ none)

-- it is the greatest with a coefficient
pub leading_greatest : (p : List (List ℕ × ℕ)) (e f : List ℕ) → IsNormal p → leading p ≡ Some e → coefficient f p ≢ 0 → (f ≡ e) ⊎ (mono_cmp f e ≡ Less)
leading_greatest [] e f normal is some = absurd (some refl)
leading_greatest (t ∷ p) e f normal is some =
    let first : t.0 ≡ e = cc in
    by (mono_cmp t.0 f) refl first
  where
    by : (o : Ordering) → mono_cmp t.0 f ≡ o → t.0 ≡ e → (f ≡ e) ⊎ (mono_cmp f e ≡ Less)
    by Less below first = absurd (some (no_coefficient t p f normal.1 below))
    by Equal tied first = inl (sym (mono_tied t.0 f tied) ∙ first)
    by Greater above first = inr (ap (mono_cmp f) (sym first) ∙ mono_flip t.0 f above)

-- ---- values of products

value-term_times : (t : List ℕ × ℕ) (q : List (List ℕ × ℕ)) (x : List ℕ) → value_at (term_times t q) x ≡ (t.1 * mono_value t.0 x) * value_at q x
value-term_times t [] x = omega arith
value-term_times t (u ∷ q) x =
    let here : (t.1 * u.1) * mono_value (mono_product t.0 u.0) x ≡ (t.1 * u.1) * (mono_value t.0 x * mono_value u.0 x) = ap (λ v. (t.1 * u.1) * v) (mono_value-mono_product t.0 u.0 x) in
    omega (arith, here, value-term_times t q x)

pub value-product_of : (p q : List (List ℕ × ℕ)) (x : List ℕ) → value_at (product_of p q) x ≡ value_at p x * value_at q x
value-product_of [] q x = omega arith
value-product_of (t ∷ p) q x =
    omega (arith, value_at-append (term_times t q) (product_of p q) x, value-term_times t q x, value-product_of p q x)
