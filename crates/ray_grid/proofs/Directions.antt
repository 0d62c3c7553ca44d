-- The terms of one total degree, taken at points whose first entry is 1: which coefficients they have then.
use Rattle.std.proofs.Common.{◌≡◌, ◌≢◌, ℕ, zero, suc, ◌+◌, ◌*◌, ◌%◌, ◌^◌, ◌≤◌, ◌==◌, ◌&&◌, Bool, true, false, if◌then◌else◌, inl, inr, List, [], ◌∷◌, refl, sym, ◌∙◌, ap, arith}
use Rattle.std.proofs.Math.Nat.{pow-suc, pow-zero}
use Rattle.std.proofs.lemmas.Bool.{cases_eq, eq-eqb, ne_eqb}
use Rattle.poly_maps.specs.declared.bound.Bound.{Bound}
use Rattle.poly_maps.specs.Bound.{WithinBound, IsWithin}
use Rattle.poly_maps.specs.Mono.{degree, mono_value, is_same, IsBelow}
use Rattle.poly_maps.specs.Moved.{graded, moved}
use Rattle.poly_maps.specs.Polynomial.{coefficient, value_at, total_degree, Supported}
use Rattle.poly_maps.proofs.Linear.{value-alike}
use Rattle.poly_maps.proofs.MonoLemmas.{is_same-true}
use Rattle.poly_maps.proofs.Moves.{later_entries, AreCongruent, value-moved, moved-congruent, point_sum_comm}
use Rattle.poly_maps.proofs.Parts.{HasPlaces}

-- the terms without the first exponent
abbrev pub headless : List (List ℕ × ℕ) → List (List ℕ × ℕ)
headless [] = []
headless (t ∷ p) = (later_entries t.0, t.1) ∷ headless p

power-one : (k : ℕ) → 1 ^ k ≡ 1
power-one zero = pow-zero 1
power-one (suc k) = pow-suc 1 k ∙ omega (arith, power-one k)

mono_value-one : (e x : List ℕ) → mono_value e (1 ∷ x) ≡ mono_value (later_entries e) x
mono_value-one [] x = refl
mono_value-one (k ∷ e) x = omega (arith, ap (λ v. v * mono_value e x) (power-one k))

-- it is the polynomial with 1 for the first variable
pub value-headless : (p : List (List ℕ × ℕ)) (x : List ℕ) → value_at p (1 ∷ x) ≡ value_at (headless p) x
value-headless [] x = refl
value-headless (t ∷ p) x = omega (arith, ap (λ v. t.1 * v) (mono_value-one t.0 x), value-headless p x)

-- of terms of one total degree the later exponents tell the first one
same_first : (i j c : ℕ) (e f : List ℕ) → j + degree f ≡ i + degree e → (if is_same f e then c else 0) ≡ (if (j == i) && is_same f e then c else 0)
same_first i j c e f even = by (is_same f e) refl
  where
    none : (b : Bool) → 0 ≡ (if b && false then c else 0)
    none true = refl
    none false = refl

    by : (b : Bool) → is_same f e ≡ b → (if is_same f e then c else 0) ≡ (if (j == i) && is_same f e then c else 0)
    by true is =
        let first : j ≡ i = omega (arith, ap degree (is_same-true f e is), even) in
        ap (λ b. if b && is_same f e then c else 0) (sym (eq-eqb j i first))
    by false is = ap (λ b. if b then c else 0) is ∙ none (j == i) ∙ ap (λ b. if (j == i) && b then c else 0) (sym is)

other_first : (i j c : ℕ) (e f : List ℕ) → j + degree f ≢ i + degree e → 0 ≡ (if (j == i) && is_same f e then c else 0)
other_first i j c e f uneven = by (is_same f e) refl
  where
    none : (b : Bool) → 0 ≡ (if b && false then c else 0)
    none true = refl
    none false = refl

    by : (b : Bool) → is_same f e ≡ b → 0 ≡ (if (j == i) && is_same f e then c else 0)
    by true is =
        let first : j ≢ i = λ same. uneven (omega (arith, ap degree (is_same-true f e is), same)) in
        ap (λ b. if b && is_same f e then c else 0) (sym (ne_eqb j i first))
    by false is = none (j == i) ∙ ap (λ b. if (j == i) && b then c else 0) (sym is)

pub coefficient-headless : (n i : ℕ) (e : List ℕ) (p : List (List ℕ × ℕ)) → Supported (HasPlaces (suc n)) p → coefficient e (headless (graded (i + degree e) p)) ≡ coefficient (i ∷ e) p
coefficient-headless n i e [] places = refl
coefficient-headless n i e (([], c) ∷ p) places = absurd (omega (arith, places.0))
coefficient-headless n i e ((j ∷ f, c) ∷ p) places =
    let k = i + degree e in
    let rest = coefficient-headless n i e p places.1 in
    elim (cases_eq (j + degree f) k) [
      | inl even ↦
          ap (λ (b : Bool). coefficient e (headless (if b then (j ∷ f, c) ∷ graded k p else graded k p))) (eq-eqb (j + degree f) k even) ∙
          omega (arith, same_first i j c e f even, rest)
      | inr uneven ↦
          ap (λ (b : Bool). coefficient e (headless (if b then (j ∷ f, c) ∷ graded k p else graded k p))) (ne_eqb (j + degree f) k uneven) ∙
          omega (arith, other_first i j c e f uneven, rest)
    ]

-- ---- their monomials

pub Supported-graded : (L : List ℕ → Type 0) (k : ℕ) (p : List (List ℕ × ℕ)) → Supported L p → Supported L (graded k p)
Supported-graded L k [] all = tt
Supported-graded L k (t ∷ p) all =
    let rest = Supported-graded L k p all.1 in
    elim (degree t.0 == k) as (λ b. Supported L (if b then t ∷ graded k p else graded k p)) [
      | true ↦ (all.0, rest)
      | false ↦ rest
    ]

pub Supported-headless : (K L : List ℕ → Type 0) (p : List (List ℕ × ℕ)) → ((e : List ℕ) → K e → L (later_entries e)) → Supported K p → Supported L (headless p)
Supported-headless K L [] sub all = tt
Supported-headless K L (t ∷ p) sub all = (sub t.0 all.0, Supported-headless K L p sub all.1)

-- the bound without the first variable
abbrev pub later_bound : Bound → Bound
later_bound b = record { total = b.total; each = later_entries b.each }

pub WithinBound-later : (b : Bound) (e : List ℕ) → WithinBound b e → WithinBound (later_bound b) (later_entries e)
WithinBound-later b e within = (omega (arith, less e, within.0), below e b.each within.1)
  where
    less : (e : List ℕ) → degree (later_entries e) ≤ degree e
    less [] = omega arith
    less (k ∷ e) = omega arith

    below : (e each : List ℕ) → IsBelow e each → IsBelow (later_entries e) (later_entries each)
    below [] [] low = tt
    below [] (c ∷ each) low = absurd low
    below (k ∷ e) [] low = absurd low
    below (k ∷ e) (c ∷ each) low = low.1

pub total_degree-within : (b : Bound) (p : List (List ℕ × ℕ)) → IsWithin b p → total_degree p ≤ b.total
total_degree-within b [] within = omega arith
total_degree-within b (t ∷ p) within = omega (arith, within.0.0, total_degree-within b p within.1)

-- ---- points

-- congruent points, where missing entries are 0
pub value-congruent : (m : ℕ) (p : List (List ℕ × ℕ)) (x y : List ℕ) → AreCongruent m x y → value_at p x % m ≡ value_at p y % m
value-congruent m p x y same =
    at x ∙ value-alike m (moved x p) (moved y p) [] (moved-congruent m x y p same) ∙ sym (at y)
  where
    at : (z : List ℕ) → value_at p z % m ≡ value_at (moved z p) [] % m
    at z = ap (λ w. value_at p w % m) (sym (point_sum_comm z [])) ∙ ap (λ v. v % m) (sym (value-moved z p []))
