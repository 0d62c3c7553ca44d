-- The leading monomial of a product, where the modulus is prime, and how degrees add up.
use Rattle.std.proofs.Common.{◌≡◌, ◌≢◌, ℕ, ◌+◌, ◌*◌, ◌%◌, ◌<◌, List, [], ◌∷◌, ◌++◌, length, Some, inl, inr, refl, sym, ◌∙◌, ap, arith}
use Rattle.std.proofs.lemmas.Bool.Decides.{nat_tests}
use Rattle.std.proofs.Math.Nat.{zero-mod}
use Rattle.std.specs.declared.cmp.Ordering.{Ordering}
use Rattle.std.specs.declared.cmp.Ordering.TheVariants.{Less, Equal, Greater}
use Rattle.std.specs.Ordering.{ordering_then, nat_cmp}
use Rattle.std.specs.Cmp.Lexicographic.{slice_cmp}
use Rattle.prime_field.specs.Residue.{IsPrime}
use Rattle.prime_field.proofs.Units.{zero_of_product}
use Rattle.poly_maps.specs.Mono.{degree, mono_cmp, mono_product}
use Rattle.poly_maps.specs.Polynomial.{coefficient, AreLess, IsNormal, AreResidues, Supported, leading, total_degree, term_times, product_of}
use Rattle.poly_maps.proofs.MonoLemmas.{degree-mono_product, mono_tied, mono_flip}
use Rattle.poly_maps.proofs.Pinned.{first-coefficient}
use Rattle.poly_maps.proofs.Terms.{coefficient-less, AreLess-trans, AreLess-append, total_degree-less}
use Rattle.poly_maps.proofs.Parts.{HasPlaces}

-- the same amount added to both
nat_cmp-add : (a b c : ℕ) → nat_cmp (a + c) (b + c) ≡ nat_cmp a b
nat_cmp-add a b c = grind (arith, nat_tests)

slice_cmp-product : (e f g : List ℕ) → length e ≡ length g → length f ≡ length g → slice_cmp nat_cmp (mono_product e g) (mono_product f g) ≡ slice_cmp nat_cmp e f
slice_cmp-product [] [] [] left right = refl
slice_cmp-product [] [] (l ∷ g) left right = absurd (omega arith)
slice_cmp-product [] (j ∷ f) [] left right = absurd (omega arith)
slice_cmp-product [] (j ∷ f) (l ∷ g) left right = absurd (omega arith)
slice_cmp-product (k ∷ e) f [] left right = absurd (omega arith)
slice_cmp-product (k ∷ e) [] (l ∷ g) left right = absurd (omega arith)
slice_cmp-product (k ∷ e) (j ∷ f) (l ∷ g) left right =
    ap (λ o. ordering_then o (slice_cmp nat_cmp (mono_product e g) (mono_product f g))) (nat_cmp-add k j l) ∙
    ap (λ o. ordering_then (nat_cmp k j) o) (slice_cmp-product e f g (omega arith) (omega arith))

-- a common factor does not change the order
mono_cmp-product : (e f g : List ℕ) → length e ≡ length g → length f ≡ length g → mono_cmp (mono_product e g) (mono_product f g) ≡ mono_cmp e f
mono_cmp-product e f g left right =
    ap (λ d. ordering_then (nat_cmp d (degree (mono_product f g))) (slice_cmp nat_cmp (mono_product e g) (mono_product f g))) (degree-mono_product e g) ∙
    ap (λ d. ordering_then (nat_cmp (degree e + degree g) d) (slice_cmp nat_cmp (mono_product e g) (mono_product f g))) (degree-mono_product f g) ∙
    ap (λ o. ordering_then o (slice_cmp nat_cmp (mono_product e g) (mono_product f g))) (nat_cmp-add (degree e) (degree f) (degree g)) ∙
    ap (λ o. ordering_then (nat_cmp (degree e) (degree f)) o) (slice_cmp-product e f g left right)

mono_product_comm : (e f : List ℕ) → mono_product e f ≡ mono_product f e
mono_product_comm [] [] = refl
mono_product_comm [] (l ∷ f) = refl
mono_product_comm (k ∷ e) [] = refl
mono_product_comm (k ∷ e) (l ∷ f) =
    let first : k + l ≡ l + k = omega arith in
    λ i. first i ∷ mono_product_comm e f i

-- ---- the product's terms

module _ (n : ℕ) where
  -- a monomial below times a polynomial whose first monomial is f
  AreLess-term_times : (t : List ℕ × ℕ) (q : List (List ℕ × ℕ)) (f : List ℕ) → HasPlaces n t.0 → HasPlaces n f → Supported (HasPlaces n) q → AreLess q f → AreLess (term_times t q) (mono_product t.0 f)
  AreLess-term_times t [] f here there places below = tt
  AreLess-term_times t (u ∷ q) f here there places below =
      let turned : mono_cmp (mono_product u.0 t.0) (mono_product f t.0) ≡ Less =
      mono_cmp-product u.0 f t.0 (places.0 ∙ sym here) (there ∙ sym here) ∙ below.0 in (
        ap (λ g. mono_cmp g (mono_product t.0 f)) (mono_product_comm t.0 u.0) ∙ ap (λ g. mono_cmp (mono_product u.0 t.0) g) (mono_product_comm t.0 f) ∙ turned,
        AreLess-term_times t q f here there places.1 below.1,
      )

  AreLess-product : (p : List (List ℕ × ℕ)) (e : List ℕ) (u : List ℕ × ℕ) (q : List (List ℕ × ℕ)) → HasPlaces n e → HasPlaces n u.0 → Supported (HasPlaces n) p → Supported (HasPlaces n) q →
      AreLess p e → AreLess q u.0 → AreLess (product_of p (u ∷ q)) (mono_product e u.0)
  AreLess-product [] e u q e_places u_places p_places q_places p_below q_below = tt
  AreLess-product (t ∷ p) e u q e_places u_places p_places q_places p_below q_below =
      let first : mono_cmp (mono_product t.0 u.0) (mono_product e u.0) ≡ Less =
      mono_cmp-product t.0 e u.0 (p_places.0 ∙ sym u_places) (e_places ∙ sym u_places) ∙ p_below.0 in
      AreLess-append (term_times t (u ∷ q)) (product_of p (u ∷ q)) (mono_product e u.0) (
        first,
        AreLess-trans (term_times t q) (mono_product t.0 u.0) (mono_product e u.0)
            (AreLess-term_times t q u.0 p_places.0 u_places q_places q_below) first,
      )
      (AreLess-product p e u q e_places u_places p_places.1 q_places p_below.1 q_below)

  -- the terms of a product past the first are below it
  product_rest : (t : List ℕ × ℕ) (p : List (List ℕ × ℕ)) (u : List ℕ × ℕ) (q : List (List ℕ × ℕ)) → Supported (HasPlaces n) (t ∷ p) → Supported (HasPlaces n) (u ∷ q) →
      AreLess p t.0 → AreLess q u.0 → AreLess (term_times t q ++ product_of p (u ∷ q)) (mono_product t.0 u.0)
  product_rest t p u q p_places q_places p_below q_below =
      AreLess-append (term_times t q) (product_of p (u ∷ q)) (mono_product t.0 u.0)
      (AreLess-term_times t q u.0 p_places.0 q_places.0 q_places.1 q_below)
      (AreLess-product p t.0 u q p_places.0 q_places.0 p_places.1 q_places.1 p_below q_below)

-- a list whose coefficients are those of terms of which the first is above the others and not 0 modulo m begins with its monomial
leads_as : (m : ℕ) (r : List (List ℕ × ℕ)) (t : List ℕ × ℕ) (p : List (List ℕ × ℕ)) → IsNormal r → AreLess p t.0 → t.1 % m ≢ 0 → ((e : List ℕ) → coefficient e r ≡ coefficient e (t ∷ p) % m) → leading r ≡ Some t.0
leads_as m [] t p normal below some same = absurd (some (sym (ap (λ c. c % m) (first-coefficient t p below)) ∙ sym (same t.0)))
leads_as m (u ∷ r) t p normal below some same = by (mono_cmp u.0 t.0) refl
  where
    at_first : coefficient t.0 (u ∷ r) ≡ t.1 % m
    at_first = same t.0 ∙ ap (λ c. c % m) (first-coefficient t p below)

    by : (o : Ordering) → mono_cmp u.0 t.0 ≡ o → leading (u ∷ r) ≡ Some t.0
    by Equal is = ap (λ e. Some e) (mono_tied u.0 t.0 is)
    by Less is =
        absurd (some (sym at_first ∙ coefficient-less (u ∷ r) t.0 (is, AreLess-trans r u.0 t.0 normal.1 is)))
    by Greater is =
        let above : mono_cmp t.0 u.0 ≡ Less = mono_flip u.0 t.0 is in
        let none : coefficient u.0 (t ∷ p) ≡ 0 = coefficient-less (t ∷ p) u.0 (above, AreLess-trans p t.0 u.0 below above) in
        absurd (normal.0 (sym (first-coefficient u r normal.1) ∙ same u.0 ∙ ap (λ c. c % m) none ∙ zero-mod m))

-- where the modulus is prime, the leading monomial of the product is the product of the leading monomials
pub leading-product : (m n : ℕ) (t : List ℕ × ℕ) (p : List (List ℕ × ℕ)) (u : List ℕ × ℕ) (q r : List (List ℕ × ℕ)) → IsPrime m →
    IsNormal (t ∷ p) → Supported (HasPlaces n) (t ∷ p) → t.1 < m → IsNormal (u ∷ q) → Supported (HasPlaces n) (u ∷ q) → u.1 < m →
    IsNormal r → ((e : List ℕ) → coefficient e r ≡ coefficient e (product_of (t ∷ p) (u ∷ q)) % m) → leading r ≡ Some (mono_product t.0 u.0)
leading-product m n t p u q r prime p_normal p_places t_low q_normal q_places u_low r_normal same =
    leads_as m r (mono_product t.0 u.0, t.1 * u.1) (term_times t q ++ product_of p (u ∷ q)) r_normal
    (product_rest n t p u q p_places q_places p_normal.1 q_normal.1)
    (λ none. elim (zero_of_product m t.1 u.1 prime t_low u_low none) [ inl left ↦ p_normal.0 left | inr right ↦ q_normal.0 right ])
    same

-- the total degree of a polynomial is its first monomial's
total_degree-first : (t : List ℕ × ℕ) (p : List (List ℕ × ℕ)) → AreLess p t.0 → total_degree (t ∷ p) ≡ degree t.0
total_degree-first t p below = omega (arith, total_degree-less p t.0 below)

-- so total degrees add up
pub total_degree-product : (m n : ℕ) (p q r : List (List ℕ × ℕ)) → IsPrime m →
    IsNormal p → Supported (HasPlaces n) p → AreResidues m p → IsNormal q → Supported (HasPlaces n) q → AreResidues m q →
    IsNormal r → ((e : List ℕ) → coefficient e r ≡ coefficient e (product_of p q) % m) → p ≢ [] → q ≢ [] → total_degree r ≡ total_degree p + total_degree q
total_degree-product m n [] q r prime p_normal p_places p_low q_normal q_places q_low r_normal same p_some q_some = absurd (p_some refl)
total_degree-product m n (t ∷ p) [] r prime p_normal p_places p_low q_normal q_places q_low r_normal same p_some q_some = absurd (q_some refl)
total_degree-product m n (t ∷ p) (u ∷ q) r prime p_normal p_places p_low q_normal q_places q_low r_normal same p_some q_some =
    by r r_normal (leading-product m n t p u q r prime p_normal p_places p_low.0 q_normal q_places q_low.0 r_normal same)
  where
    by : (r : List (List ℕ × ℕ)) → IsNormal r → leading r ≡ Some (mono_product t.0 u.0) → total_degree r ≡ total_degree (t ∷ p) + total_degree (u ∷ q)
    by [] normal leads = cc
    by (v ∷ r) normal leads =
        let first : v.0 ≡ mono_product t.0 u.0 = cc in
        total_degree-first v r normal.1 ∙ ap degree first ∙ degree-mono_product t.0 u.0 ∙
        sym (ap (λ d. d + total_degree (u ∷ q)) (total_degree-first t p p_normal.1) ∙ ap (λ d. degree t.0 + d) (total_degree-first u q q_normal.1))
