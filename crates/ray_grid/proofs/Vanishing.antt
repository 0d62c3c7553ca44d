-- A polynomial with exponents in a lower set is zero where it vanishes at the set's points on a grid.
use Rattle.std.proofs.Common.{◌≡◌, ℕ, zero, suc, ◌+◌, ◌*◌, ◌%◌, ◌<◌, ◌≤◌, Bool, true, false, if◌then◌else◌, inl, inr, List, [], ◌∷◌, length, get_or, refl, sym, ◌∙◌, ap, subst, arith}
use Rattle.std.proofs.Math.Nat.{zero-mod}
use Rattle.std.proofs.lemmas.Bool.{cases_eq, eq-eqb, ne_eqb}
use Rattle.prime_field.proofs.Residues.{add-cong, mul-cong}
use Rattle.poly_maps.specs.declared.bound.Bound.{Bound}
use Rattle.poly_maps.specs.Mono.{degree, is_same, IsBelow}
use Rattle.poly_maps.specs.Polynomial.{coefficient, value_at, degree_in, Supported}
use Rattle.poly_maps.specs.Shifted.{IsLower}
use Rattle.univariate.specs.Univariate.{univariate_value, AllVanish, AreApart}
use Rattle.poly_maps.proofs.Linear.{value-alike}
use Rattle.poly_maps.proofs.MonoLemmas.{is_same-true}
use Rattle.poly_maps.proofs.Moves.{Supported-sub, WithinBound-lower}
use Rattle.poly_maps.proofs.Parts.{HasPlaces, upto, part, coefficient-part, value-parts, same_values}
use Rattle.univariate.proofs.Counting.{zero-sum, zero-times, vanishing}
use Rattle.poly_maps.proofs.Within.{IsBelow-places}
use Rattle.ray_grid.specs.Vanishing.{grid_point, AreAxes}

-- a monomial that is not in L has no coefficient
pub coefficient-outside : (L : List ℕ → Type 0) (p : List (List ℕ × ℕ)) (e : List ℕ) → Supported L p → (L e → ⊥) → coefficient e p ≡ 0
coefficient-outside L [] e all outside = refl
coefficient-outside L (t ∷ p) e all outside = by (is_same t.0 e) refl (coefficient-outside L p e all.1 outside)
  where
    by : (b : Bool) → is_same t.0 e ≡ b → coefficient e p ≡ 0 → (if is_same t.0 e then t.1 else 0) + coefficient e p ≡ 0
    by true same rest = absurd (outside (subst L (is_same-true t.0 e same) all.0))
    by false other rest = ap (λ b. (if b then t.1 else 0) + coefficient e p) other ∙ omega (arith, rest)

-- a polynomial without coefficients has no values
pub value_none : (m : ℕ) (p : List (List ℕ × ℕ)) (x : List ℕ) → ((e : List ℕ) → coefficient e p % m ≡ 0) → value_at p x % m ≡ 0
value_none m p x none = value-alike m p [] x (λ e. none e ∙ sym (zero-mod m)) ∙ zero-mod m

Supported-part : (L : List ℕ → Type 0) (k : ℕ) (p : List (List ℕ × ℕ)) → Supported L p → Supported (λ e. L (k ∷ e)) (part k p)
Supported-part L k [] all = tt
Supported-part L k (([], c) ∷ p) all = Supported-part L k p all.1
Supported-part L k ((j ∷ e, c) ∷ p) all =
    let rest = Supported-part L k p all.1 in
    elim (cases_eq j k) [
      | inl same ↦
          subst (λ (b : Bool). Supported (λ f. L (k ∷ f)) (if b then (e, c) ∷ part k p else part k p)) (sym (eq-eqb j k same))
          (subst (λ i. L (i ∷ e)) same all.0, rest)
      | inr other ↦
          subst (λ (b : Bool). Supported (λ f. L (k ∷ f)) (if b then (e, c) ∷ part k p else part k p)) (sym (ne_eqb j k other)) rest
    ]

-- ---- polynomials in one variable

length-upto : (n : ℕ) (c : ℕ → ℕ) → length (upto n c) ≡ n
length-upto zero c = refl
length-upto (suc n) c = ap suc (length-upto n (λ k. c (suc k)))

get_or-upto : (n : ℕ) (c : ℕ → ℕ) (k : ℕ) → k < n → get_or (upto n c) k 0 ≡ c k
get_or-upto zero c k low = absurd (omega arith)
get_or-upto (suc n) c zero low = refl
get_or-upto (suc n) c (suc k) low = get_or-upto n (λ i. c (suc i)) k (omega arith)

-- a polynomial of at most n coefficients and with n zeros that are apart
pub upto_vanish : (m n : ℕ) (c axis : ℕ → ℕ) → AreApart m n axis → ((j : ℕ) → j < n → univariate_value (upto n c) (axis j) % m ≡ 0) → (k : ℕ) → k < n → c k % m ≡ 0
upto_vanish m n c axis apart zeros k low =
    let all : AllVanish m (upto n c) = vanishing m n axis (upto n c) (omega (arith, length-upto n c)) apart zeros in
    ap (λ v. v % m) (sym (get_or-upto n c k low)) ∙ all k

value-upto_none : (m n : ℕ) (c : ℕ → ℕ) (a : ℕ) → ((i : ℕ) → c i % m ≡ 0) → univariate_value (upto n c) a % m ≡ 0
value-upto_none m zero c a none = zero-mod m
value-upto_none m (suc n) c a none =
    let rest = univariate_value (upto n (λ k. c (suc k))) a in
    zero-sum m (c 0) (a * rest) (none 0) (zero-times m a rest (value-upto_none m n (λ k. c (suc k)) a (λ i. none (suc i))))

-- coefficients that are 0 from the place n on may be left out
value-upto_cut : (m n most : ℕ) (c : ℕ → ℕ) (a : ℕ) → n ≤ most → ((i : ℕ) → n ≤ i → c i % m ≡ 0) → univariate_value (upto most c) a % m ≡ univariate_value (upto n c) a % m
value-upto_cut m zero most c a low none = value-upto_none m most c a (λ i. none i (omega arith)) ∙ sym (zero-mod m)
value-upto_cut m (suc n) zero c a low none = absurd (omega arith)
value-upto_cut m (suc n) (suc most) c a low none =
    let long = univariate_value (upto most (λ k. c (suc k))) a in
    let short = univariate_value (upto n (λ k. c (suc k))) a in
    add-cong m (c 0) (c 0) (a * long) (a * short) refl
    (mul-cong m a a long short refl (value-upto_cut m n most (λ k. c (suc k)) a (omega arith) (λ i high. none (suc i) (omega arith))))

-- ---- power by power of the first variable

-- where the parts of the higher powers vanish at x, and the polynomial does at x with each of k + 1 values in front, so does
-- the part of the power k
part_vanishes : (m top places : ℕ) (axis : ℕ → ℕ) (x : List ℕ) (p : List (List ℕ × ℕ)) (k : ℕ) → k ≤ top → AreApart m (top + 1) axis → Supported (HasPlaces (suc places)) p →
    ((i : ℕ) → suc k ≤ i → value_at (part i p) x % m ≡ 0) → ((i : ℕ) → i ≤ k → value_at p (axis i ∷ x) % m ≡ 0) → value_at (part k p) x % m ≡ 0
part_vanishes m top places axis x p k low apart long above zeros =
    let c : ℕ → ℕ = λ i. value_at (part i p) x in
    let most = suc (k + degree_in 0 p) in
    upto_vanish m (suc k) c axis (λ i j before below. apart i j before (omega arith))
    (λ j below.
    sym (value-upto_cut m (suc k) most c (axis j) (omega arith) above) ∙
    ap (λ v. v % m) (sym (value-parts most places p (axis j) x long (omega arith))) ∙
    zeros j (omega arith))
    k (omega arith)

IsBelow-itself : (e : List ℕ) → IsBelow e e
IsBelow-itself [] = tt
IsBelow-itself (k ∷ e) = (omega arith, IsBelow-itself e)

-- from the highest power down, by what is known of the further variables
descend : (m top : ℕ) (tops : List ℕ) (axis : ℕ → ℕ) (axes : List (ℕ → ℕ)) (L : List ℕ → Type 0) (p : List (List ℕ × ℕ)) → AreApart m (top + 1) axis →
    IsLower L → ((e : List ℕ) → L e → IsBelow e (top ∷ tops)) → Supported L p → ((j : List ℕ) → L j → value_at p (grid_point (axis ∷ axes) j) % m ≡ 0) →
    ((k : ℕ) → ((j : List ℕ) → L (k ∷ j) → value_at (part k p) (grid_point axes j) % m ≡ 0) → (e : List ℕ) → coefficient e (part k p) % m ≡ 0) →
    (left k : ℕ) → top < k + left → (e : List ℕ) → coefficient e (part k p) % m ≡ 0
descend m top tops axis axes L p apart lower box all zeros further zero k high e =
    ap (λ c. c % m) (coefficient-outside (λ f. L (k ∷ f)) (part k p) e (Supported-part L k p all) (λ here. let low : k ≤ top = (box (k ∷ e) here).0 in omega arith)) ∙
    zero-mod m
descend m top tops axis axes L p apart lower box all zeros further (suc left) k high e =
    further k
    (λ j here.
    let x = grid_point axes j in
    part_vanishes m top (length tops) axis x p k (box (k ∷ j) here).0 apart
    (Supported-sub L (HasPlaces (suc (length tops))) p (λ f there. (IsBelow-places f (top ∷ tops) (box f there)).0) all)
    (λ i above. value_none m (part i p) x (descend m top tops axis axes L p apart lower box all zeros further left i (omega arith)))
    (λ i low. zeros (i ∷ j) (lower (i ∷ j) (k ∷ j) (low, IsBelow-itself j) here)))
    e

-- in no variables
constant : (m : ℕ) (p : List (List ℕ × ℕ)) → Supported (HasPlaces 0) p → value_at p [] % m ≡ 0 → (e : List ℕ) → coefficient e p % m ≡ 0
constant m p short zero_value e =
    let v = value_at p [] in
    ap (λ c. c % m) (same_values 0 p (([], v) ∷ []) short (refl, tt) same e) ∙ by v zero_value (is_same [] e)
  where
    same : (x : List ℕ) → length x ≡ 0 → value_at p x ≡ value_at (([], value_at p []) ∷ []) x
    same [] none = omega arith
    same (a ∷ x) none = absurd (omega (arith, none))

    by : (v : ℕ) → v % m ≡ 0 → (b : Bool) → ((if b then v else 0) + 0) % m ≡ 0
    by v zero_value true = ap (λ c. c % m) (omega arith) ∙ zero_value
    by v zero_value false = zero-mod m

pub lower_vanishing : (m : ℕ) (axes : List (ℕ → ℕ)) (tops : List ℕ) (L : List ℕ → Type 0) (p : List (List ℕ × ℕ)) → AreAxes m axes tops →
    IsLower L → ((e : List ℕ) → L e → IsBelow e tops) → Supported L p → ((j : List ℕ) → L j → value_at p (grid_point axes j) % m ≡ 0) → (e : List ℕ) → coefficient e p % m ≡ 0
lower_vanishing m [] [] L [] apart lower box all zeros e = zero-mod m
lower_vanishing m [] [] L (t ∷ p) apart lower box all zeros e =
    constant m (t ∷ p) (Supported-sub L (HasPlaces 0) (t ∷ p) (λ f here. (IsBelow-places f [] (box f here)).0) all)
    (zeros [] (subst L (empty t.0 (box t.0 all.0)) all.0)) e
  where
    empty : (f : List ℕ) → IsBelow f [] → f ≡ []
    empty [] below = refl
    empty (k ∷ f) below = absurd below
lower_vanishing m [] (top ∷ tops) L p apart lower box all zeros e = absurd apart
lower_vanishing m (axis ∷ axes) [] L p apart lower box all zeros e = absurd apart
lower_vanishing m (axis ∷ axes) (top ∷ tops) L p apart lower box all zeros [] =
    ap (λ c. c % m) (coefficient-outside L p [] all (λ here. box [] here)) ∙ zero-mod m
lower_vanishing m (axis ∷ axes) (top ∷ tops) L p apart lower box all zeros (k ∷ e) =
    ap (λ c. c % m) (sym (coefficient-part k e p)) ∙
    descend m top tops axis axes L p apart.0 lower box all zeros
    (λ i vanish.
    lower_vanishing m axes tops (λ g. L (i ∷ g)) (part i p) apart.1
    (λ g h below here. lower (i ∷ g) (i ∷ h) (omega arith, below) here)
    (λ g here. (box (i ∷ g) here).1) (Supported-part L i p all) vanish)
    (suc top) k (omega arith) e

-- a product set is lower
pub IsBelow-lower : (tops : List ℕ) → IsLower (λ e. IsBelow e tops)
IsBelow-lower tops e f below within =
    let b : Bound = record { total = degree f; each = tops } in
    (WithinBound-lower b e f below (omega arith, within)).1
