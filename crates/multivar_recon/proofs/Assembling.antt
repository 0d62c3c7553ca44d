-- Polynomials assembled from parts, one for each degree: their values, their coefficients, and the parts of a polynomial.
use Rattle.std.proofs.Common.{◌≡◌, ◌≢◌, ℕ, zero, suc, ◌+◌, ◌-◌, ◌*◌, ◌%◌, ◌^◌, ◌<◌, ◌≤◌, ◌==◌, Bool, true, false, if◌then◌else◌, inl, inr, List, [], ◌∷◌, ◌++◌, length, refl, sym, ◌∙◌, ap, subst, arith}
use Rattle.std.proofs.Math.Nat.{pow-suc, pow-zero}
use Rattle.std.proofs.lemmas.Bool.{cases_eq, cases_lt, eq-eqb, ne_eqb}
use Rattle.prime_field.proofs.Residues.{add-cong}
use Rattle.poly_maps.specs.Mono.{degree, mono_value, is_same, HasEight}
use Rattle.poly_maps.specs.Moved.{graded}
use Rattle.poly_maps.specs.Polynomial.{coefficient, value_at, total_degree, times, Supported}
use Rattle.poly_maps.proofs.Linear.{sum_over, AreAlike, sum-alike}
use Rattle.poly_maps.proofs.MonoLemmas.{is_same-true}
use Rattle.poly_maps.proofs.Moves.{coefficient-times}
use Rattle.poly_maps.proofs.Terms.{coefficient-append, value_at-append, Supported-append}
use Rattle.ray_grid.proofs.Vanishing.{coefficient-outside}
use Rattle.multivar_recon.specs.Assembly.{headless, filled, at_degree, assembled}

-- ---- sums and multiples of congruent polynomials

pub append-alike : (m : ℕ) (p q r s : List (List ℕ × ℕ)) → AreAlike m p q → AreAlike m r s → AreAlike m (p ++ r) (q ++ s)
append-alike m p q r s left right e =
    ap (λ c. c % m) (coefficient-append e p r) ∙
    add-cong m (coefficient e p) (coefficient e q) (coefficient e r) (coefficient e s) (left e) (right e) ∙
    ap (λ c. c % m) (sym (coefficient-append e q s))

-- ---- at a point whose first entry is 1 the first exponent does not matter

power_of_one : (k : ℕ) → 1 ^ k ≡ 1
power_of_one zero = pow-zero 1
power_of_one (suc k) = pow-suc 1 k ∙ omega (arith, power_of_one k)

mono_value-first : (i j : ℕ) (e g : List ℕ) → mono_value (i ∷ e) (1 ∷ g) ≡ mono_value (j ∷ e) (1 ∷ g)
mono_value-first i j e g = ap (λ v. v * mono_value e g) (power_of_one i ∙ sym (power_of_one j))

mono_value-filled : (k : ℕ) (e g : List ℕ) → mono_value (filled k e) (1 ∷ g) ≡ mono_value e (1 ∷ g)
mono_value-filled k [] g = refl
mono_value-filled k (j ∷ e) g = mono_value-first (k - degree e) j e g

pub value-at_degree : (k : ℕ) (p : List (List ℕ × ℕ)) (g : List ℕ) → value_at (at_degree k p) (1 ∷ g) ≡ value_at p (1 ∷ g)
value-at_degree k [] g = refl
value-at_degree k (t ∷ p) g = omega (arith, ap (λ v. t.1 * v) (mono_value-filled k t.0 g), value-at_degree k p g)

-- ---- degrees

-- a monomial of eight variables and of total degree k at most
abbrev pub IsUpTo : ℕ → List ℕ → Type 0
IsUpTo k e = HasEight e × (degree e ≤ k)

degree-filled : (k : ℕ) (e : List ℕ) → IsUpTo k e → degree (filled k e) ≡ k
degree-filled k [] low = absurd (omega (arith, low.0))
degree-filled k (j ∷ e) low = omega (arith, low.1)

graded-append : (k : ℕ) (p q : List (List ℕ × ℕ)) → graded k (p ++ q) ≡ graded k p ++ graded k q
graded-append k [] q = refl
graded-append k (t ∷ p) q =
    elim (degree t.0 == k) as (λ b. (if b then t ∷ graded k (p ++ q) else graded k (p ++ q)) ≡ (if b then t ∷ graded k p else graded k p) ++ graded k q) [
      | true ↦ ap (λ r. t ∷ r) (graded-append k p q)
      | false ↦ graded-append k p q
    ]

-- what is homogeneous of degree k is its own part of that degree
graded-at_degree : (k : ℕ) (p : List (List ℕ × ℕ)) → Supported (IsUpTo k) p → graded k (at_degree k p) ≡ at_degree k p
graded-at_degree k [] low = refl
graded-at_degree k (t ∷ p) low =
    let u : List ℕ × ℕ = (filled k t.0, t.1) in
    ap (λ b. if b then u ∷ graded k (at_degree k p) else graded k (at_degree k p)) (eq-eqb (degree (filled k t.0)) k (degree-filled k t.0 low.0)) ∙
    ap (λ r. u ∷ r) (graded-at_degree k p low.1)

graded-other_degree : (i k : ℕ) (p : List (List ℕ × ℕ)) → i ≢ k → Supported (IsUpTo k) p → graded i (at_degree k p) ≡ []
graded-other_degree i k [] other low = refl
graded-other_degree i k (t ∷ p) other low =
    let u : List ℕ × ℕ = (filled k t.0, t.1) in
    ap (λ b. if b then u ∷ graded i (at_degree k p) else graded i (at_degree k p))
    (ne_eqb (degree (filled k t.0)) i (λ same. other (sym same ∙ degree-filled k t.0 low.0))) ∙
    graded-other_degree i k p other low.1

-- each of the first n parts has monomials up to its degree
abbrev pub AreUpTo : ℕ → (ℕ → List (List ℕ × ℕ)) → Type 0
AreUpTo n parts = (k : ℕ) → k < n → Supported (IsUpTo k) (parts k)

value-graded_more : (i n : ℕ) (parts : ℕ → List (List ℕ × ℕ)) (x : List ℕ) →
    value_at (graded i (assembled (suc n) parts)) x ≡ value_at (graded i (assembled n parts)) x + value_at (graded i (at_degree n (parts n))) x
value-graded_more i n parts x =
    ap (λ p. value_at p x) (graded-append i (assembled n parts) (at_degree n (parts n))) ∙
    value_at-append (graded i (assembled n parts)) (graded i (at_degree n (parts n))) x

-- no part, nothing of its degree
pub value-assembled_high : (i n : ℕ) (parts : ℕ → List (List ℕ × ℕ)) (x : List ℕ) → n ≤ i → AreUpTo n parts → value_at (graded i (assembled n parts)) x ≡ 0
value-assembled_high i zero parts x high low = refl
value-assembled_high i (suc n) parts x high low =
    let other : i ≢ n = λ same. omega (arith, same, high) in
    omega (
      arith,
      value-graded_more i n parts x,
      value-assembled_high i n parts x (omega arith) (λ k below. low k (omega arith)),
      ap (λ p. value_at p x) (graded-other_degree i n (parts n) other (low n (omega arith))),
    )

-- what is assembled has in degree k, at a point whose first entry is 1, the value of part k
pub value-assembled : (i n : ℕ) (parts : ℕ → List (List ℕ × ℕ)) (g : List ℕ) → i < n → AreUpTo n parts → value_at (graded i (assembled n parts)) (1 ∷ g) ≡ value_at (parts i) (1 ∷ g)
value-assembled i zero parts g within low = absurd (omega arith)
value-assembled i (suc n) parts g within low =
    value-graded_more i n parts (1 ∷ g) ∙
    elim (cases_eq i n) [
      | inl last ↦
          omega (
            arith,
            value-assembled_high i n parts (1 ∷ g) (omega arith) (λ k below. low k (omega arith)),
            ap (λ k. value_at (graded k (at_degree n (parts n))) (1 ∷ g)) last,
            ap (λ p. value_at p (1 ∷ g)) (graded-at_degree n (parts n) (low n (omega arith))),
            value-at_degree n (parts n) g,
            ap (λ k. value_at (parts k) (1 ∷ g)) last,
          )
      | inr other ↦
          omega (
            arith,
            value-assembled i n parts g (omega arith) (λ k below. low k (omega arith)),
            ap (λ p. value_at p (1 ∷ g)) (graded-other_degree i n (parts n) other (low n (omega arith))),
          )
    ]

length-filled : (k : ℕ) (e : List ℕ) → length (filled k e) ≡ length e
length-filled k [] = refl
length-filled k (j ∷ e) = refl

at_degree-eight : (k : ℕ) (p : List (List ℕ × ℕ)) → Supported HasEight p → Supported HasEight (at_degree k p)
at_degree-eight k [] eight = tt
at_degree-eight k (t ∷ p) eight = (length-filled k t.0 ∙ eight.0, at_degree-eight k p eight.1)

pub assembled-eight : (n : ℕ) (parts : ℕ → List (List ℕ × ℕ)) → ((k : ℕ) → k < n → Supported HasEight (parts k)) → Supported HasEight (assembled n parts)
assembled-eight zero parts eight = tt
assembled-eight (suc n) parts eight =
    Supported-append HasEight (assembled n parts) (at_degree n (parts n))
    (assembled-eight n parts (λ k low. eight k (omega arith))) (at_degree-eight n (parts n) (eight n (omega arith)))

-- ---- parts with congruent coefficients

coefficient-at_degree : (k : ℕ) (e : List ℕ) (p : List (List ℕ × ℕ)) → coefficient e (at_degree k p) ≡ sum_over (λ f. if is_same (filled k f) e then 1 else 0) p
coefficient-at_degree k e [] = refl
coefficient-at_degree k e (t ∷ p) =
    elim (is_same (filled k t.0) e) as (λ b. (if b then t.1 else 0) + coefficient e (at_degree k p) ≡ t.1 * (if b then 1 else 0) + sum_over (λ f. if is_same (filled k f) e then 1 else 0) p) [
      | true ↦ omega (arith, coefficient-at_degree k e p)
      | false ↦ omega (arith, coefficient-at_degree k e p)
    ]

pub at_degree-alike : (m k : ℕ) (p q : List (List ℕ × ℕ)) → AreAlike m p q → AreAlike m (at_degree k p) (at_degree k q)
at_degree-alike m k p q alike e =
    ap (λ c. c % m) (coefficient-at_degree k e p) ∙
    sum-alike m (λ f. if is_same (filled k f) e then 1 else 0) p q alike ∙
    ap (λ c. c % m) (sym (coefficient-at_degree k e q))

pub assembled-alike : (m n : ℕ) (parts others : ℕ → List (List ℕ × ℕ)) → ((k : ℕ) → k < n → AreAlike m (parts k) (others k)) → AreAlike m (assembled n parts) (assembled n others)
assembled-alike m zero parts others alike e = refl
assembled-alike m (suc n) parts others alike e =
    append-alike m (assembled n parts) (assembled n others) (at_degree n (parts n)) (at_degree n (others n))
    (assembled-alike m n parts others (λ k low. alike k (omega arith)))
    (at_degree-alike m n (parts n) (others n) (alike n (omega arith))) e

-- ---- multiples

times-at_degree : (k c : ℕ) (p : List (List ℕ × ℕ)) → at_degree k (times c p) ≡ times c (at_degree k p)
times-at_degree k c [] = refl
times-at_degree k c (t ∷ p) = ap (λ r. (filled k t.0, c * t.1) ∷ r) (times-at_degree k c p)

-- what is assembled from multiples is the multiple
pub coefficient-assembled_times : (n c : ℕ) (parts : ℕ → List (List ℕ × ℕ)) (e : List ℕ) → coefficient e (assembled n (λ k. times c (parts k))) ≡ c * coefficient e (assembled n parts)
coefficient-assembled_times zero c parts e = omega arith
coefficient-assembled_times (suc n) c parts e =
    omega (
      arith,
      coefficient-append e (assembled n (λ k. times c (parts k))) (at_degree n (times c (parts n))),
      coefficient-assembled_times n c parts e,
      ap (coefficient e) (times-at_degree n c (parts n)),
      coefficient-times e c (at_degree n (parts n)),
      ap (λ v. c * v) (coefficient-append e (assembled n parts) (at_degree n (parts n))),
    )

-- ---- the parts of a polynomial

abbrev pub headless_terms : List (List ℕ × ℕ) → List (List ℕ × ℕ)
headless_terms [] = []
headless_terms (t ∷ p) = (headless t.0, t.1) ∷ headless_terms p

-- the terms of degree k with 1 for the first variable
abbrev pub part_of : List (List ℕ × ℕ) → ℕ → List (List ℕ × ℕ)
part_of p k = headless_terms (graded k p)

mono_value-headless : (e g : List ℕ) → mono_value (headless e) (1 ∷ g) ≡ mono_value e (1 ∷ g)
mono_value-headless [] g = refl
mono_value-headless (j ∷ e) g = mono_value-first 0 j e g

pub value-headless_terms : (p : List (List ℕ × ℕ)) (g : List ℕ) → value_at (headless_terms p) (1 ∷ g) ≡ value_at p (1 ∷ g)
value-headless_terms [] g = refl
value-headless_terms (t ∷ p) g = omega (arith, ap (λ v. t.1 * v) (mono_value-headless t.0 g), value-headless_terms p g)

filled-headless : (k : ℕ) (e : List ℕ) → degree e ≡ k → filled k (headless e) ≡ e
filled-headless k [] same = refl
filled-headless k (j ∷ e) same =
    let first : k - degree e ≡ j = omega (arith, same) in
    ap (λ i. i ∷ e) first

-- filled again they are the terms of degree k
pub at_degree-part : (k : ℕ) (p : List (List ℕ × ℕ)) → at_degree k (part_of p k) ≡ graded k p
at_degree-part k [] = refl
at_degree-part k (t ∷ p) = elim (cases_eq (degree t.0) k) [
  | inl here ↦
      let more : graded k (t ∷ p) ≡ t ∷ graded k p = ap (λ b. if b then t ∷ graded k p else graded k p) (eq-eqb (degree t.0) k here) in
      ap (λ q. at_degree k (headless_terms q)) more ∙
      (λ i. (filled-headless k t.0 here i, t.1) ∷ at_degree-part k p i) ∙
      sym more
  | inr other ↦
      let same : graded k (t ∷ p) ≡ graded k p = ap (λ b. if b then t ∷ graded k p else graded k p) (ne_eqb (degree t.0) k other) in
      ap (λ q. at_degree k (headless_terms q)) same ∙ at_degree-part k p ∙ sym same
]

-- the monomials of the parts
pub Supported-part_of : (K L : List ℕ → Type 0) (k : ℕ) (p : List (List ℕ × ℕ)) → ((e : List ℕ) → K e → degree e ≡ k → L (headless e)) → Supported K p → Supported L (part_of p k)
Supported-part_of K L k [] sub all = tt
Supported-part_of K L k (t ∷ p) sub all = elim (cases_eq (degree t.0) k) [
  | inl here ↦
      subst (λ (b : Bool). Supported L (headless_terms (if b then t ∷ graded k p else graded k p))) (sym (eq-eqb (degree t.0) k here))
      (sub t.0 all.0 here, Supported-part_of K L k p sub all.1)
  | inr other ↦
      subst (λ (b : Bool). Supported L (headless_terms (if b then t ∷ graded k p else graded k p))) (sym (ne_eqb (degree t.0) k other))
      (Supported-part_of K L k p sub all.1)
]

-- ---- a polynomial is assembled from its parts

coefficient-graded_same : (e : List ℕ) (p : List (List ℕ × ℕ)) → coefficient e (graded (degree e) p) ≡ coefficient e p
coefficient-graded_same e [] = refl
coefficient-graded_same e (t ∷ p) =
    let k = degree e in
    elim (cases_eq (degree t.0) k) [
      | inl here ↦
          ap (λ b. coefficient e (if b then t ∷ graded k p else graded k p)) (eq-eqb (degree t.0) k here) ∙
          ap (λ c. (if is_same t.0 e then t.1 else 0) + c) (coefficient-graded_same e p)
      | inr other ↦
          ap (λ b. coefficient e (if b then t ∷ graded k p else graded k p)) (ne_eqb (degree t.0) k other) ∙
          coefficient-graded_same e p ∙
          by (is_same t.0 e) refl other
    ]
  where
    by : (b : Bool) → is_same t.0 e ≡ b → degree t.0 ≢ degree e → coefficient e p ≡ (if is_same t.0 e then t.1 else 0) + coefficient e p
    by true same other = absurd (other (ap degree (is_same-true t.0 e same)))
    by false differs other = omega arith ∙ ap (λ b. (if b then t.1 else 0) + coefficient e p) (sym differs)

coefficient-graded_other : (k : ℕ) (e : List ℕ) (p : List (List ℕ × ℕ)) → degree e ≢ k → coefficient e (graded k p) ≡ 0
coefficient-graded_other k e [] other = refl
coefficient-graded_other k e (t ∷ p) other = elim (cases_eq (degree t.0) k) [
  | inl here ↦
      ap (λ b. coefficient e (if b then t ∷ graded k p else graded k p)) (eq-eqb (degree t.0) k here) ∙
      by (is_same t.0 e) refl here ∙
      coefficient-graded_other k e p other
  | inr elsewhere ↦
      ap (λ b. coefficient e (if b then t ∷ graded k p else graded k p)) (ne_eqb (degree t.0) k elsewhere) ∙
      coefficient-graded_other k e p other
]
  where
    by : (b : Bool) → is_same t.0 e ≡ b → degree t.0 ≡ k → (if is_same t.0 e then t.1 else 0) + coefficient e (graded k p) ≡ coefficient e (graded k p)
    by true same here = absurd (other (ap degree (sym (is_same-true t.0 e same)) ∙ here))
    by false differs here = ap (λ b. (if b then t.1 else 0) + coefficient e (graded k p)) differs ∙ omega arith

parts-below : (n : ℕ) (p : List (List ℕ × ℕ)) (e : List ℕ) → n ≤ degree e → coefficient e (assembled n (part_of p)) ≡ 0
parts-below zero p e high = refl
parts-below (suc n) p e high =
    let other : degree e ≢ n = λ same. omega (arith, same, high) in
    omega (
      arith,
      coefficient-append e (assembled n (part_of p)) (at_degree n (part_of p n)),
      parts-below n p e (omega arith),
      ap (coefficient e) (at_degree-part n p) ∙ coefficient-graded_other n e p other,
    )

parts-here : (n : ℕ) (p : List (List ℕ × ℕ)) (e : List ℕ) → degree e < n → coefficient e (assembled n (part_of p)) ≡ coefficient e p
parts-here zero p e low = absurd (omega arith)
parts-here (suc n) p e low =
    coefficient-append e (assembled n (part_of p)) (at_degree n (part_of p n)) ∙
    elim (cases_eq (degree e) n) [
      | inl last ↦
          omega (
            arith,
            parts-below n p e (omega arith),
            ap (coefficient e) (at_degree-part n p) ∙ ap (λ k. coefficient e (graded k p)) (sym last) ∙ coefficient-graded_same e p,
          )
      | inr other ↦
          omega (
            arith,
            parts-here n p e (omega arith),
            ap (coefficient e) (at_degree-part n p) ∙ coefficient-graded_other n e p other,
          )
    ]

pub parts-whole : (n : ℕ) (p : List (List ℕ × ℕ)) (e : List ℕ) → Supported (λ f. degree f < n) p → coefficient e (assembled n (part_of p)) ≡ coefficient e p
parts-whole n p e all = elim (cases_lt (degree e) n) [
  | inl low ↦ parts-here n p e low
  | inr high ↦ parts-below n p e high ∙ sym (coefficient-outside (λ f. degree f < n) p e all (λ low. omega arith))
]

-- ---- all monomials

pub Supported-both : (K L : List ℕ → Type 0) (p : List (List ℕ × ℕ)) → Supported K p → Supported L p → Supported (λ e. K e × L e) p
Supported-both K L [] left right = tt
Supported-both K L (t ∷ p) left right = ((left.0, right.0), Supported-both K L p left.1 right.1)

pub total_degree-each : (d : ℕ) (p : List (List ℕ × ℕ)) → total_degree p ≤ d → Supported (λ e. degree e ≤ d) p
total_degree-each d [] low = tt
total_degree-each d (t ∷ p) low = (omega (arith, low), total_degree-each d p (omega (arith, low)))
