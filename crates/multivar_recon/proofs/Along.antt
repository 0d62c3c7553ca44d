-- The coefficients of a polynomial along a ray.
use Rattle.std.proofs.Common.{◌≡◌, ◌≢◌, ℕ, zero, suc, ◌+◌, ◌*◌, ◌%◌, ◌<◌, ◌≤◌, ◌==◌, ◌⊎◌, Bool, true, false, if◌then◌else◌, List, [], ◌∷◌, ◌++◌, length, get_or, slice_index, map, inl, inr, refl, sym, ◌∙◌, ap, subst, arith}
use Rattle.std.proofs.Math.Nat.{mod-mod, zero-mod}
use Rattle.std.proofs.lemmas.Bool.{cases_eq, cases_lt, ne_eqb, ltb-true, ltb-false, lt-ltb, le-ltb}
use Rattle.prime_field.proofs.Residues.{add-cong, mul-cong}
use lib.Dec.{ltb}
use Rattle.univariate.specs.Univariate.{univariate_value, AllVanish}
use Rattle.univariate.specs.Coefficients.{Alike, IsBelow}
use Rattle.univariate.proofs.Coefficients.{value-alike as value-alike_lists}
use Rattle.poly_maps.specs.Mono.{degree, mono_value, is_same}
use Rattle.poly_maps.specs.Polynomial.{coefficient, value_at, total_degree, Supported}
use Rattle.poly_maps.specs.Moved.{point_sum, scaled, moved, graded}
use Rattle.poly_maps.proofs.Linear.{AreAlike}
use Rattle.poly_maps.proofs.MonoLemmas.{is_same-true}
use Rattle.poly_maps.proofs.Moves.{AreCongruent, moved-alike}
use Rattle.poly_maps.proofs.ProductDegrees.{total_degree-moved}
use Rattle.poly_maps.proofs.Rays.{ray_values, graded-alike}
use Rattle.newton_interp.specs.Grid.{listed}
use Rattle.newton_interp.proofs.Columns.{at-listed, below-listed}
use Rattle.ray_grid.proofs.Directions.{value-congruent}
use Rattle.multivar_recon.specs.Rays.{IsAlong}

-- ---- terms of one degree

-- of a polynomial with lower degree they have the value 0
pub graded-high : (k : ℕ) (p : List (List ℕ × ℕ)) (g : List ℕ) → total_degree p < k → value_at (graded k p) g ≡ 0
graded-high k [] g high = refl
graded-high k (u ∷ p) g high =
    let other : degree u.0 ≢ k = λ same. omega (arith, same, high) in
    ap (λ b. value_at (if b then u ∷ graded k p else graded k p) g) (ne_eqb (degree u.0) k other) ∙
    graded-high k p g (omega arith)

-- the terms of degree e at most
abbrev pub low_terms : ℕ → List (List ℕ × ℕ) → List (List ℕ × ℕ)
low_terms e [] = []
low_terms e (t ∷ p) = if ltb e (degree t.0) then low_terms e p else t ∷ low_terms e p

pub low_terms-degree : (e : ℕ) (p : List (List ℕ × ℕ)) → total_degree (low_terms e p) ≤ e
low_terms-degree e [] = omega arith
low_terms-degree e (t ∷ p) = by (ltb e (degree t.0)) refl (low_terms-degree e p)
  where
    by : (b : Bool) → ltb e (degree t.0) ≡ b → total_degree (low_terms e p) ≤ e → total_degree (if b then low_terms e p else t ∷ low_terms e p) ≤ e
    by true high rest = rest
    by false low rest = omega (arith, ltb-false e (degree t.0) low)

pub low_terms-supported : (L : List ℕ → Type 0) (e : ℕ) (p : List (List ℕ × ℕ)) → Supported L p → Supported L (low_terms e p)
low_terms-supported L e [] all = tt
low_terms-supported L e (t ∷ p) all = by (ltb e (degree t.0)) (low_terms-supported L e p all.1)
  where
    by : (b : Bool) → Supported L (low_terms e p) → Supported L (if b then low_terms e p else t ∷ low_terms e p)
    by true rest = rest
    by false rest = (all.0, rest)

pub low_terms-high : (e : ℕ) (f : List ℕ) (p : List (List ℕ × ℕ)) → e < degree f → coefficient f (low_terms e p) ≡ 0
low_terms-high e f [] high = refl
low_terms-high e f (t ∷ p) high = by (ltb e (degree t.0)) refl (is_same t.0 f) refl (low_terms-high e f p high)
  where
    by : (b : Bool) → ltb e (degree t.0) ≡ b → (s : Bool) → is_same t.0 f ≡ s → coefficient f (low_terms e p) ≡ 0 →
        coefficient f (if b then low_terms e p else t ∷ low_terms e p) ≡ 0
    by true above s is rest = rest
    by false below true is rest =
        absurd (omega (arith, ltb-false e (degree t.0) below, ap degree (is_same-true t.0 f is), high))
    by false below false is rest =
        ap (λ b. (if b then t.1 else 0) + coefficient f (low_terms e p)) is ∙ omega (arith, rest)

pub low_terms-low : (e : ℕ) (f : List ℕ) (p : List (List ℕ × ℕ)) → degree f ≤ e → coefficient f (low_terms e p) ≡ coefficient f p
low_terms-low e f [] low = refl
low_terms-low e f (t ∷ p) low = by (ltb e (degree t.0)) refl (is_same t.0 f) refl (low_terms-low e f p low)
  where
    by : (b : Bool) → ltb e (degree t.0) ≡ b → (s : Bool) → is_same t.0 f ≡ s → coefficient f (low_terms e p) ≡ coefficient f p →
        coefficient f (if b then low_terms e p else t ∷ low_terms e p) ≡ (if is_same t.0 f then t.1 else 0) + coefficient f p
    by true above true is rest =
        absurd (omega (arith, ltb-true e (degree t.0) above, ap degree (is_same-true t.0 f is), low))
    by true above false is rest =
        rest ∙ sym (ap (λ b. (if b then t.1 else 0) + coefficient f p) is ∙ omega arith)
    by false below s is rest = ap (λ c. (if is_same t.0 f then t.1 else 0) + c) rest

-- where all coefficients of higher degree vanish, these terms are the polynomial
pub low_terms-alike : (m e : ℕ) (p : List (List ℕ × ℕ)) → ((f : List ℕ) → e < degree f → coefficient f p % m ≡ 0) → AreAlike m p (low_terms e p)
low_terms-alike m e p none f =
    elim (cases_lt e (degree f)) [
      | inl high ↦ none f high ∙ sym (ap (λ c. c % m) (low_terms-high e f p high) ∙ zero-mod m)
      | inr low ↦ ap (λ c. c % m) (sym (low_terms-low e f p low))
    ]

-- ---- along a ray

-- a list of these coefficients, as residues
pub coefficients_along : ℕ → List ℕ → List ℕ → List (List ℕ × ℕ) → List ℕ
coefficients_along m s g p = listed (suc (total_degree p)) (λ k. value_at (graded k (moved s p)) g % m)

pub is_along : (m : ℕ) (s g : List ℕ) (p : List (List ℕ × ℕ)) → IsAlong m s g p (coefficients_along m s g p)
unfolding coefficients_along
is_along m s g p k =
    let f : ℕ → ℕ = λ k. value_at (graded k (moved s p)) g % m in
    elim (cases_lt k (suc (total_degree p))) [
      | inl low ↦ ap (λ c. c % m) (at-listed (suc (total_degree p)) f k low) ∙ mod-mod (value_at (graded k (moved s p)) g) m
      | inr high ↦
          below-listed m (suc (total_degree p)) f k high ∙
          sym (ap (λ c. c % m) (graded-high k (moved s p) g (omega (arith, total_degree-moved s p))) ∙ zero-mod m)
    ]

residue-at : (m : ℕ) (r : List ℕ) (k : ℕ) → slice_index (map (λ v. v % m) r) k ≡ slice_index r k % m
residue-at m [] k = sym (zero-mod m)
residue-at m (a ∷ r) zero = refl
residue-at m (a ∷ r) (suc k) = residue-at m r k

-- they give the values along the ray
pub value_along : (m : ℕ) (s g : List ℕ) (p : List (List ℕ × ℕ)) (r : List ℕ) → IsAlong m s g p r → (t : ℕ) →
    univariate_value r t % m ≡ value_at p (point_sum s (scaled t g)) % m
value_along m s g p r along t =
    value-alike_lists m r (map (λ v. v % m) r) t (λ k. sym (ap (λ v. v % m) (residue-at m r k) ∙ mod-mod (slice_index r k) m)) ∙
    ray_values m p s g (map (λ v. v % m) r) (λ k. residue-at m r k ∙ along k) t

-- two lists of them are alike
pub along_alike : (m : ℕ) (s g : List ℕ) (p : List (List ℕ × ℕ)) (r q : List ℕ) → IsAlong m s g p r → IsAlong m s g p q → Alike m r q
along_alike m s g p r q along other k = along k ∙ sym (other k)

-- there are none above the total degree
pub below_along : (m e : ℕ) (s g : List ℕ) (p : List (List ℕ × ℕ)) (r : List ℕ) → IsAlong m s g p r → total_degree p ≤ e → IsBelow m (suc e) r
below_along m e s g p r along low k from =
    along k ∙ ap (λ v. v % m) (graded-high k (moved s p) g (omega (arith, total_degree-moved s p))) ∙ zero-mod m

-- nor above a degree above which all coefficients vanish
pub low_along : (m e : ℕ) (s g : List ℕ) (p : List (List ℕ × ℕ)) (r : List ℕ) → IsAlong m s g p r →
    ((f : List ℕ) → e < degree f → coefficient f p % m ≡ 0) → IsBelow m (suc e) r
low_along m e s g p r along none =
    below_along m e s g (low_terms e p) r
    (λ k. along k ∙ graded-alike m k (moved s p) (moved s (low_terms e p)) g (moved-alike m s p (low_terms e p) (low_terms-alike m e p none)))
    (low_terms-degree e p)

-- ---- where a ray begins

nothing-scaled : (g : List ℕ) (k : ℕ) → get_or (scaled 0 g) k 0 ≡ 0
nothing-scaled [] k = refl
nothing-scaled (a ∷ g) zero = omega arith
nothing-scaled (a ∷ g) (suc k) = nothing-scaled g k

nothing-added : (s z : List ℕ) → ((k : ℕ) → get_or z k 0 ≡ 0) → (k : ℕ) → get_or (point_sum s z) k 0 ≡ get_or s k 0
nothing-added [] z none k = none k
nothing-added (a ∷ s) [] none k = refl
nothing-added (a ∷ s) (b ∷ z) none zero = omega (arith, none 0)
nothing-added (a ∷ s) (b ∷ z) none (suc k) = nothing-added s z (λ i. none (suc i)) k

-- the value at t = 0 is the one at s
pub value_begin : (m : ℕ) (s g : List ℕ) (p : List (List ℕ × ℕ)) → value_at p (point_sum s (scaled 0 g)) % m ≡ value_at p s % m
value_begin m s g p =
    value-congruent m p (point_sum s (scaled 0 g)) s (λ k. ap (λ v. v % m) (nothing-added s (scaled 0 g) (nothing-scaled g) k))

value_first : (r : List ℕ) → univariate_value r 0 ≡ slice_index r 0
value_first [] = refl
value_first (a ∷ r) = omega arith

pub along_begin : (m : ℕ) (s g : List ℕ) (p : List (List ℕ × ℕ)) (r : List ℕ) → IsAlong m s g p r → slice_index r 0 % m ≡ value_at p s % m
along_begin m s g p r along = ap (λ v. v % m) (sym (value_first r)) ∙ value_along m s g p r along 0 ∙ value_begin m s g p
