-- Powers that are put behind a text one by one make the text of a term.
use Rattle.std.proofs.Common.{◌≡◌, ◌≢◌, ℕ, suc, ◌==◌, Bool, true, false, cond, not, ◌&&◌, List, [], ◌∷◌, ◌++◌, refl, sym, ap, subst, ◌∙◌, append_assoc, append-nil, arith, inl, inr, ◌⊎◌, slice_index, eqb-true, eq-eqb}
use Rattle.std.specs.Prelude.{⊤, Result, OnOk}
use Rattle.std.specs.List.{join_with_byte}
use Rattle.std.proofs.lemmas.Bool.{cases_eq, ne_eqb}
use Rattle.poly_maps.specs.Mono.{degree}
use Rattle.poly_maps.specs.declared.fraction.Frac.{Frac}
use Rattle.ratfun_text.specs.Printed.{IsIn, chained, factors, is_unit, magnitude, mono_text, power, powers, product_text, term_text}
use Rattle.ratfun_text.proofs.Polynomials.{no_powers}

chained_behind : (m : List ℕ) (ps : List (List ℕ)) → m ++ chained false ps ≡ join_with_byte 42 (m ∷ ps)
chained_behind m [] = append-nil m
chained_behind m (p ∷ ps) = ap (λ t. m ++ 42 ∷ t) (chained_behind p ps)

zero_degree : (e : List ℕ) → ((i : ℕ) → slice_index e i ≡ 0) → degree e ≡ 0
zero_degree [] h = refl
zero_degree (k ∷ e) h = omega (arith, h 0, zero_degree e (λ i. h (suc i)))

some_powers : (names : List (List ℕ)) (e : List ℕ) → IsIn names e → degree e ≢ 0 → powers names e ≢ []
some_powers [] e inside some none = some (zero_degree e (λ i. inside i (omega arith)))
some_powers (name ∷ names) [] inside some none = some refl
some_powers (name ∷ names) (k ∷ e) inside some none = elim (cases_eq k 0) [
  | inl zero ↦
      let same : powers (name ∷ names) (k ∷ e) ≡ powers names e = ap (λ b. cond b (powers names e) (power name k ∷ powers names e)) (eq-eqb k 0 zero) in
      some_powers names e (λ i h. inside (suc i) (omega arith)) (λ d. some (omega arith)) (sym same ∙ none)
  | inr more ↦
      let same : powers (name ∷ names) (k ∷ e) ≡ power name k ∷ powers names e = ap (λ b. cond b (powers names e) (power name k ∷ powers names e)) (ne_eqb k 0 more) in
      let bad : power name k ∷ powers names e ≡ [] = sym same ∙ none in
      cc
]

product_chained : (ps : List (List ℕ)) → ps ≢ [] → chained true ps ≡ product_text ps
product_chained [] h = absurd (h refl)
product_chained (p ∷ ps) h = chained_behind p ps

-- a monomial that isn't 1
pub mono_chained : (names : List (List ℕ)) (e : List ℕ) → IsIn names e → degree e ≢ 0 → chained true (powers names e) ≡ mono_text names e
mono_chained names e inside some = product_chained (powers names e) (some_powers names e inside some)

pub mono_empty : (names : List (List ℕ)) (e : List ℕ) → degree e ≡ 0 → 49 ∷ [] ≡ mono_text names e
mono_empty names e none = ap product_text (sym (no_powers names e none))

bare_factors : (f : Frac) (ps : List (List ℕ)) → ps ≢ [] → is_unit f ≡ true → chained true ps ≡ join_with_byte 42 (factors f ps)
bare_factors f [] h unit = absurd (h refl)
bare_factors f (p ∷ ps) h unit = chained_behind p ps ∙ ap (λ b. join_with_byte 42 (cond b (p ∷ ps) (magnitude f ∷ p ∷ ps))) (sym unit)

with_magnitude : (f : Frac) (ps : List (List ℕ)) → (ps ≡ []) ⊎ (is_unit f ≡ false) → magnitude f ++ chained false ps ≡ join_with_byte 42 (factors f ps)
with_magnitude f [] h = append-nil (magnitude f)
with_magnitude f (p ∷ ps) (inl none) = cc
with_magnitude f (p ∷ ps) (inr more) = chained_behind (magnitude f) (p ∷ ps) ∙ ap (λ b. join_with_byte 42 (cond b (p ∷ ps) (magnitude f ∷ p ∷ ps))) (sym more)

-- a term that is printed as its powers alone
pub term_bare : (names : List (List ℕ)) (e : List ℕ) (f : Frac) → IsIn names e → (not (degree e == 0) && is_unit f) ≡ true → chained true (powers names e) ≡ term_text names (e, f)
term_bare names e f inside h = bare_factors f (powers names e) (some_powers names e inside (λ d. zero (degree e == 0) (is_unit f) (eq-eqb (degree e) 0 d) h)) (unit (degree e == 0) (is_unit f) h)
  where
    zero : (a b : Bool) → a ≡ true → (not a && b) ≡ true → ⊥
    zero true b z h = cc
    zero false b z h = cc

    unit : (a b : Bool) → (not a && b) ≡ true → b ≡ true
    unit true b h = cc
    unit false b h = h

-- a term that is printed with its coefficient
pub term_full : (names : List (List ℕ)) (e : List ℕ) (f : Frac) → (not (degree e == 0) && is_unit f) ≡ false → magnitude f ++ chained false (powers names e) ≡ term_text names (e, f)
term_full names e f h = with_magnitude f (powers names e) (why (degree e == 0) (is_unit f) refl h)
  where
    why : (a b : Bool) → (degree e == 0) ≡ a → (not a && b) ≡ false → (powers names e ≡ []) ⊎ (b ≡ false)
    why true b z h = inl (no_powers names e (eqb-true (degree e) 0 z))
    why false b z h = inr h

-- what is put behind a text in two steps
pub put_twice : {E : Type 0} (r : Result ⊤ E) (old x y z middle new : List ℕ) → middle ≡ old ++ x → x ++ y ≡ z → OnOk r (new ≡ middle ++ y) → OnOk r (new ≡ old ++ z)
put_twice r old x y z middle new first both h =
    let place : middle ++ y ≡ old ++ z = ap (λ t. t ++ y) first ∙ append_assoc old x y ∙ ap (λ t. old ++ t) both in
    subst (λ (t : List ℕ). OnOk r (new ≡ t)) place h
