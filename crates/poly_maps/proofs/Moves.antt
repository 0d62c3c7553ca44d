-- Polynomials taken at moved points: their values, their degrees, and moving twice.
use Rattle.std.proofs.Common.{◌≡◌, ◌≢◌, ℕ, zero, suc, ◌+◌, ◌-◌, ◌*◌, ◌%◌, ◌^◌, ◌<◌, ◌≤◌, Bool, true, false, if◌then◌else◌, List, [], ◌∷◌, ◌++◌, length, get_or, refl, sym, ◌∙◌, ap, arith, subst}
use Rattle.std.proofs.Math.Nat.{pow-suc, pow-zero, mod-mod, mod-add-mod, zero-mod, mod_self, mod-eq_of_lt}
use Rattle.prime_field.proofs.Residues.{add-cong, mul-cong}
use Rattle.poly_maps.specs.Mono.{degree, mono_value, is_same, IsBelow}
use Rattle.poly_maps.specs.Polynomial.{coefficient, value_at, IsNormal, IsPolynomial, AreResidues, Supported, times}
use Rattle.poly_maps.specs.Bound.{WithinBound, IsWithin}
use Rattle.poly_maps.specs.declared.bound.Bound.{Bound}
use Rattle.poly_maps.specs.Moved.{point_sum, widened, raised, times_first, times_power, moved_mono, moved}
use Rattle.poly_maps.specs.Shifted.{negatives, IsLower, IsMoved}
use Rattle.poly_maps.proofs.MonoLemmas.{is_same-true, is_same-itself}
use Rattle.poly_maps.proofs.Terms.{coefficient-append, coefficient-residue, value_at-append, Supported-append}
use Rattle.poly_maps.proofs.Linear.{sum_over, sum_over-times, coefficient-sum, AreAlike, sum-alike, value-alike}
use Rattle.poly_maps.proofs.Parts.{HasPlaces, same_values}

-- the first entry of a point, 0 where there is none, and the further ones
abbrev pub first_entry : List ℕ → ℕ
first_entry [] = 0
first_entry (a ∷ x) = a

abbrev pub later_entries : List ℕ → List ℕ
later_entries [] = []
later_entries (a ∷ x) = x

pub mono_value-cons : (k : ℕ) (e x : List ℕ) → mono_value (k ∷ e) x ≡ first_entry x ^ k * mono_value e (later_entries x)
mono_value-cons k e [] = refl
mono_value-cons k e (a ∷ x) = refl

pub moved_mono-cons : (k : ℕ) (e s : List ℕ) → moved_mono (k ∷ e) s ≡ times_power (first_entry s) k (moved_mono e (later_entries s))
moved_mono-cons k e [] = refl
moved_mono-cons k e (a ∷ s) = refl

first-point_sum : (x y : List ℕ) → first_entry (point_sum x y) ≡ first_entry x + first_entry y
first-point_sum [] y = omega arith
first-point_sum (a ∷ x) [] = omega arith
first-point_sum (a ∷ x) (b ∷ y) = refl

later-point_sum : (x y : List ℕ) → later_entries (point_sum x y) ≡ point_sum (later_entries x) (later_entries y)
later-point_sum [] y = refl
later-point_sum (a ∷ []) [] = refl
later-point_sum (a ∷ b ∷ x) [] = refl
later-point_sum (a ∷ x) (b ∷ y) = refl

pub point_sum_assoc : (x y z : List ℕ) → point_sum (point_sum x y) z ≡ point_sum x (point_sum y z)
point_sum_assoc [] y z = refl
point_sum_assoc (a ∷ x) [] z = refl
point_sum_assoc (a ∷ x) (b ∷ y) [] = refl
point_sum_assoc (a ∷ x) (b ∷ y) (c ∷ z) =
    let first : a + b + c ≡ a + (b + c) = omega arith in
    λ i. first i ∷ point_sum_assoc x y z i

-- ---- multiples

pub coefficient-times : (e : List ℕ) (a : ℕ) (p : List (List ℕ × ℕ)) → coefficient e (times a p) ≡ a * coefficient e p
coefficient-times e a p =
    coefficient-sum e (times a p) ∙ sum_over-times (λ f. if is_same f e then 1 else 0) a p ∙ ap (λ v. a * v) (sym (coefficient-sum e p))

pub value_at-times : (a : ℕ) (p : List (List ℕ × ℕ)) (x : List ℕ) → value_at (times a p) x ≡ a * value_at p x
value_at-times a [] x = omega arith
value_at-times a (t ∷ p) x = omega (arith, value_at-times a p x)

pub Supported-times : (L : List ℕ → Type 0) (a : ℕ) (p : List (List ℕ × ℕ)) → Supported L p → Supported L (times a p)
Supported-times L a [] all = tt
Supported-times L a (t ∷ p) all = (all.0, Supported-times L a p all.1)

pub Supported-sub : (K L : List ℕ → Type 0) (p : List (List ℕ × ℕ)) → ((e : List ℕ) → K e → L e) → Supported K p → Supported L p
Supported-sub K L [] sub all = tt
Supported-sub K L (t ∷ p) sub all = (sub t.0 all.0, Supported-sub K L p sub all.1)

-- ---- degrees

-- with the first variable to the power k at most, and the further ones in L
abbrev pub StartsWithin : ℕ → (List ℕ → Type 0) → List ℕ → Type 0
StartsWithin k L [] = ⊥
StartsWithin k L (j ∷ e) = (j ≤ k) × L e

Supported-widened : (L : List ℕ → Type 0) (p : List (List ℕ × ℕ)) → Supported L p → Supported (StartsWithin 0 L) (widened p)
Supported-widened L [] all = tt
Supported-widened L (t ∷ p) all = ((omega arith, all.0), Supported-widened L p all.1)

Supported-times_first : (k : ℕ) (L : List ℕ → Type 0) (p : List (List ℕ × ℕ)) → Supported (StartsWithin k L) p → Supported (StartsWithin (suc k) L) (times_first p)
Supported-times_first k L [] all = tt
Supported-times_first k L (([], c) ∷ p) all = absurd all.0
Supported-times_first k L ((j ∷ e, c) ∷ p) all = ((omega (arith, all.0.0), all.0.1), Supported-times_first k L p all.1)

StartsWithin-more : (k : ℕ) (L : List ℕ → Type 0) (e : List ℕ) → StartsWithin k L e → StartsWithin (suc k) L e
StartsWithin-more k L [] low = low
StartsWithin-more k L (j ∷ e) low = (omega (arith, low.0), low.1)

Supported-times_power : (a k : ℕ) (L : List ℕ → Type 0) (p : List (List ℕ × ℕ)) → Supported L p → Supported (StartsWithin k L) (times_power a k p)
Supported-times_power a zero L p all = Supported-widened L p all
Supported-times_power a (suc k) L p all =
    let before = Supported-times_power a k L p all in
    Supported-append (StartsWithin (suc k) L) (times a (times_power a k p)) (times_first (times_power a k p))
    (Supported-times (StartsWithin (suc k) L) a (times_power a k p) (Supported-sub (StartsWithin k L) (StartsWithin (suc k) L) (times_power a k p) (StartsWithin-more k L) before))
    (Supported-times_first k L (times_power a k p) before)

StartsWithin_below : (k : ℕ) (e f : List ℕ) → StartsWithin k (λ g. IsBelow g e) f → IsBelow f (k ∷ e)
StartsWithin_below k e [] low = low
StartsWithin_below k e (j ∷ f) low = low

-- the monomials of a moved monomial have no greater exponent anywhere
pub moved_mono-below : (e s : List ℕ) → Supported (λ f. IsBelow f e) (moved_mono e s)
moved_mono-below [] s = (tt, tt)
moved_mono-below (k ∷ e) s =
    let a = first_entry s in
    let q = moved_mono e (later_entries s) in
    subst (λ (p : List (List ℕ × ℕ)). Supported (λ f. IsBelow f (k ∷ e)) p) (sym (moved_mono-cons k e s))
    (Supported-sub (StartsWithin k (λ g. IsBelow g e)) (λ f. IsBelow f (k ∷ e)) (times_power a k q) (StartsWithin_below k e)
    (Supported-times_power a k (λ g. IsBelow g e) q (moved_mono-below e (later_entries s))))

pub Supported-moved : (L : List ℕ → Type 0) (s : List ℕ) (p : List (List ℕ × ℕ)) → IsLower L → Supported L p → Supported L (moved s p)
Supported-moved L s [] lower all = tt
Supported-moved L s (t ∷ p) lower all =
    Supported-append L (times t.1 (moved_mono t.0 s)) (moved s p)
    (Supported-times L t.1 (moved_mono t.0 s)
    (Supported-sub (λ f. IsBelow f t.0) L (moved_mono t.0 s) (λ f below. lower f t.0 below all.0) (moved_mono-below t.0 s)))
    (Supported-moved L s p lower all.1)

pub HasPlaces-lower : (n : ℕ) → IsLower (HasPlaces n)
HasPlaces-lower n e f below places = same_length e f below ∙ places
  where
    same_length : (e f : List ℕ) → IsBelow e f → length e ≡ length f
    same_length [] [] below = refl
    same_length [] (l ∷ f) below = absurd below
    same_length (k ∷ e) [] below = absurd below
    same_length (k ∷ e) (l ∷ f) below = ap suc (same_length e f below.1)

-- no greater exponent anywhere, no greater total degree
pub degree-below : (e f : List ℕ) → IsBelow e f → degree e ≤ degree f
degree-below [] [] below = omega arith
degree-below [] (l ∷ f) below = absurd below
degree-below (k ∷ e) [] below = absurd below
degree-below (k ∷ e) (l ∷ f) below = omega (arith, below.0, degree-below e f below.1)

-- bounds on degrees are such
pub WithinBound-lower : (b : Bound) → IsLower (WithinBound b)
WithinBound-lower b e f below within = (omega (arith, degree-below e f below, within.0), both e f b.each below within.1)
  where
    both : (e f each : List ℕ) → IsBelow e f → IsBelow f each → IsBelow e each
    both [] [] each lower upper = upper
    both [] (l ∷ f) each lower upper = absurd lower
    both (k ∷ e) [] each lower upper = absurd lower
    both (k ∷ e) (l ∷ f) [] lower upper = absurd upper
    both (k ∷ e) (l ∷ f) (c ∷ each) lower upper = (omega (arith, lower.0, upper.0), both e f each lower.1 upper.1)

-- ---- values

value-widened : (p : List (List ℕ × ℕ)) (y : List ℕ) → value_at (widened p) y ≡ value_at p (later_entries y)
value-widened [] y = refl
value-widened (t ∷ p) y =
    omega (arith, ap (λ v. t.1 * v) (mono_value-cons 0 t.0 y), ap (λ v. t.1 * (v * mono_value t.0 (later_entries y))) (pow-zero (first_entry y)), value-widened p y)

value-times_first : (k : ℕ) (L : List ℕ → Type 0) (p : List (List ℕ × ℕ)) (y : List ℕ) → Supported (StartsWithin k L) p → value_at (times_first p) y ≡ first_entry y * value_at p y
value-times_first k L [] y all = omega arith
value-times_first k L (([], c) ∷ p) y all = absurd all.0
value-times_first k L ((j ∷ e, c) ∷ p) y all =
    let power : first_entry y ^ (j + 1) ≡ first_entry y ^ j * first_entry y = ap (λ i. first_entry y ^ i) (omega arith) ∙ pow-suc (first_entry y) j in
    omega (
      arith,
      ap (λ v. c * v) (mono_value-cons (j + 1) e y),
      ap (λ v. c * (v * mono_value e (later_entries y))) power,
      ap (λ v. first_entry y * (c * v)) (mono_value-cons j e y),
      value-times_first k L p y all.1,
    )

value-times_power : (a k : ℕ) (L : List ℕ → Type 0) (p : List (List ℕ × ℕ)) (y : List ℕ) → Supported L p → value_at (times_power a k p) y ≡ (a + first_entry y) ^ k * value_at p (later_entries y)
value-times_power a zero L p y all = value-widened p y ∙ omega (arith, ap (λ v. v * value_at p (later_entries y)) (pow-zero (a + first_entry y)))
value-times_power a (suc k) L p y all =
    let q = times_power a k p in
    let b = a + first_entry y in
    let rest = value_at p (later_entries y) in
    omega (
      arith,
      value_at-append (times a q) (times_first q) y,
      value_at-times a q y,
      value-times_first k L q y (Supported-times_power a k L p all),
      ap (λ v. b * v) (value-times_power a k L p y all),
      ap (λ v. v * rest) (pow-suc b k),
    )

value-moved_mono : (e s y : List ℕ) → value_at (moved_mono e s) y ≡ mono_value e (point_sum s y)
value-moved_mono [] s y = refl
value-moved_mono (k ∷ e) s y =
    let a = first_entry s in
    let rest = moved_mono e (later_entries s) in
    ap (λ p. value_at p y) (moved_mono-cons k e s) ∙
    value-times_power a k (λ f. IsBelow f e) rest y (moved_mono-below e (later_entries s)) ∙
    ap (λ v. (a + first_entry y) ^ k * v) (value-moved_mono e (later_entries s) (later_entries y)) ∙
    ap (λ b. b ^ k * mono_value e (point_sum (later_entries s) (later_entries y))) (sym (first-point_sum s y)) ∙
    ap (λ z. first_entry (point_sum s y) ^ k * mono_value e z) (sym (later-point_sum s y)) ∙
    sym (mono_value-cons k e (point_sum s y))

-- the value of the moved polynomial is that of the polynomial at the moved point
pub value-moved : (s : List ℕ) (p : List (List ℕ × ℕ)) (y : List ℕ) → value_at (moved s p) y ≡ value_at p (point_sum s y)
value-moved s [] y = refl
value-moved s (t ∷ p) y =
    omega (
      arith,
      value_at-append (times t.1 (moved_mono t.0 s)) (moved s p) y,
      value_at-times t.1 (moved_mono t.0 s) y,
      ap (λ v. t.1 * v) (value-moved_mono t.0 s y),
      value-moved s p y,
    )

-- moved by nothing
pub moved-nothing : (n : ℕ) (p : List (List ℕ × ℕ)) → Supported (HasPlaces n) p → (e : List ℕ) → coefficient e (moved [] p) ≡ coefficient e p
moved-nothing n p places =
    same_values n (moved [] p) p (Supported-moved (HasPlaces n) [] p (HasPlaces-lower n) places) places (λ x length_is. value-moved [] p x)

-- moved twice
pub moved-moved : (n : ℕ) (s t : List ℕ) (p : List (List ℕ × ℕ)) → Supported (HasPlaces n) p → (e : List ℕ) → coefficient e (moved s (moved t p)) ≡ coefficient e (moved (point_sum t s) p)
moved-moved n s t p places =
    let once = Supported-moved (HasPlaces n) t p (HasPlaces-lower n) places in
    same_values n (moved s (moved t p)) (moved (point_sum t s) p)
    (Supported-moved (HasPlaces n) s (moved t p) (HasPlaces-lower n) once)
    (Supported-moved (HasPlaces n) (point_sum t s) p (HasPlaces-lower n) places)
    (λ x length_is.
    value-moved s (moved t p) x ∙ value-moved t p (point_sum s x) ∙
    ap (λ y. value_at p y) (sym (point_sum_assoc t s x)) ∙ sym (value-moved (point_sum t s) p x))

-- ---- congruences

-- the coefficients of a moved polynomial are sums over the terms
coefficient-moved : (g s : List ℕ) (p : List (List ℕ × ℕ)) → coefficient g (moved s p) ≡ sum_over (λ e. coefficient g (moved_mono e s)) p
coefficient-moved g s [] = refl
coefficient-moved g s (t ∷ p) =
    omega (arith, coefficient-append g (times t.1 (moved_mono t.0 s)) (moved s p), coefficient-times g t.1 (moved_mono t.0 s), coefficient-moved g s p)

-- congruent polynomials, moved, are congruent
pub moved-alike : (m : ℕ) (s : List ℕ) (p q : List (List ℕ × ℕ)) → AreAlike m p q → AreAlike m (moved s p) (moved s q)
moved-alike m s p q alike g =
    ap (λ c. c % m) (coefficient-moved g s p) ∙ sum-alike m (λ e. coefficient g (moved_mono e s)) p q alike ∙ ap (λ c. c % m) (sym (coefficient-moved g s q))

alike-append : (m : ℕ) (p q r s : List (List ℕ × ℕ)) → AreAlike m p q → AreAlike m r s → AreAlike m (p ++ r) (q ++ s)
alike-append m p q r s left right e =
    ap (λ c. c % m) (coefficient-append e p r) ∙
    add-cong m (coefficient e p) (coefficient e q) (coefficient e r) (coefficient e s) (left e) (right e) ∙
    ap (λ c. c % m) (sym (coefficient-append e q s))

alike-times : (m a b : ℕ) (p q : List (List ℕ × ℕ)) → a % m ≡ b % m → AreAlike m p q → AreAlike m (times a p) (times b q)
alike-times m a b p q factors alike e =
    ap (λ c. c % m) (coefficient-times e a p) ∙
    mul-cong m a b (coefficient e p) (coefficient e q) factors (alike e) ∙
    ap (λ c. c % m) (sym (coefficient-times e b q))

coefficient-widened : (e : List ℕ) (p : List (List ℕ × ℕ)) → coefficient e (widened p) ≡ sum_over (λ f. if is_same (0 ∷ f) e then 1 else 0) p
coefficient-widened e [] = refl
coefficient-widened e (t ∷ p) =
    elim (is_same (0 ∷ t.0) e) as (λ b. (if b then t.1 else 0) + coefficient e (widened p) ≡ t.1 * (if b then 1 else 0) + sum_over (λ f. if is_same (0 ∷ f) e then 1 else 0) p) [
      | true ↦ omega (arith, coefficient-widened e p)
      | false ↦ omega (arith, coefficient-widened e p)
    ]

coefficient-times_first : (e : List ℕ) (p : List (List ℕ × ℕ)) → coefficient e (times_first p) ≡ sum_over (λ f. if is_same (raised f) e then 1 else 0) p
coefficient-times_first e [] = refl
coefficient-times_first e (t ∷ p) =
    elim (is_same (raised t.0) e) as (λ b. (if b then t.1 else 0) + coefficient e (times_first p) ≡ t.1 * (if b then 1 else 0) + sum_over (λ f. if is_same (raised f) e then 1 else 0) p) [
      | true ↦ omega (arith, coefficient-times_first e p)
      | false ↦ omega (arith, coefficient-times_first e p)
    ]

alike-times_power : (m a b k : ℕ) (p q : List (List ℕ × ℕ)) → a % m ≡ b % m → AreAlike m p q → AreAlike m (times_power a k p) (times_power b k q)
alike-times_power m a b zero p q same alike =
    λ e. ap (λ c. c % m) (coefficient-widened e p) ∙ sum-alike m (λ f. if is_same (0 ∷ f) e then 1 else 0) p q alike ∙ ap (λ c. c % m) (sym (coefficient-widened e q))
alike-times_power m a b (suc k) p q same alike =
    let before = alike-times_power m a b k p q same alike in
    alike-append m (times a (times_power a k p)) (times b (times_power b k q)) (times_first (times_power a k p)) (times_first (times_power b k q))
    (alike-times m a b (times_power a k p) (times_power b k q) same before)
    (λ e.
    ap (λ c. c % m) (coefficient-times_first e (times_power a k p)) ∙
    sum-alike m (λ f. if is_same (raised f) e then 1 else 0) (times_power a k p) (times_power b k q) before ∙
    ap (λ c. c % m) (sym (coefficient-times_first e (times_power b k q))))

-- the entries of two points are congruent, where missing ones are 0
abbrev pub AreCongruent : ℕ → List ℕ → List ℕ → Type 0
AreCongruent m s t = (i : ℕ) → get_or s i 0 % m ≡ get_or t i 0 % m

first-congruent : (m : ℕ) (s t : List ℕ) → AreCongruent m s t → first_entry s % m ≡ first_entry t % m
first-congruent m s t same = first s ∙ same 0 ∙ sym (first t)
  where
    first : (x : List ℕ) → first_entry x % m ≡ get_or x 0 0 % m
    first [] = refl
    first (a ∷ x) = refl

later-congruent : (m : ℕ) (s t : List ℕ) → AreCongruent m s t → AreCongruent m (later_entries s) (later_entries t)
later-congruent m s t same i = later s i ∙ same (suc i) ∙ sym (later t i)
  where
    later : (x : List ℕ) (i : ℕ) → get_or (later_entries x) i 0 % m ≡ get_or x (suc i) 0 % m
    later [] i = refl
    later (a ∷ x) i = refl

moved_mono-congruent : (m : ℕ) (e s t : List ℕ) → AreCongruent m s t → AreAlike m (moved_mono e s) (moved_mono e t)
moved_mono-congruent m [] s t same g = refl
moved_mono-congruent m (k ∷ e) s t same g =
    ap (λ p. coefficient g p % m) (moved_mono-cons k e s) ∙
    alike-times_power m (first_entry s) (first_entry t) k (moved_mono e (later_entries s)) (moved_mono e (later_entries t))
    (first-congruent m s t same) (moved_mono-congruent m e (later_entries s) (later_entries t) (later-congruent m s t same)) g ∙
    ap (λ p. coefficient g p % m) (sym (moved_mono-cons k e t))

-- moved by congruent points
pub moved-congruent : (m : ℕ) (s t : List ℕ) (p : List (List ℕ × ℕ)) → AreCongruent m s t → AreAlike m (moved s p) (moved t p)
moved-congruent m s t [] same = λ e. refl
moved-congruent m s t (u ∷ p) same =
    alike-append m (times u.1 (moved_mono u.0 s)) (times u.1 (moved_mono u.0 t)) (moved s p) (moved t p)
    (alike-times m u.1 u.1 (moved_mono u.0 s) (moved_mono u.0 t) refl (moved_mono-congruent m u.0 s t same))
    (moved-congruent m s t p same)

-- a point and its negatives
pub negatives-cancel : (m : ℕ) (s : List ℕ) → ((k : ℕ) → get_or s k 0 ≤ m) → AreCongruent m (point_sum (negatives m s) s) []
negatives-cancel m [] low i = refl
negatives-cancel m (a ∷ s) low zero =
    let small : a ≤ m = low 0 in
    mod-add-mod (m - a) m a ∙ ap (λ t. t % m) (omega arith) ∙ mod_self m ∙ sym (zero-mod m)
negatives-cancel m (a ∷ s) low (suc i) = negatives-cancel m s (λ k. low (suc k)) i

pub point_sum_comm : (x y : List ℕ) → point_sum x y ≡ point_sum y x
point_sum_comm [] [] = refl
point_sum_comm [] (b ∷ y) = refl
point_sum_comm (a ∷ x) [] = refl
point_sum_comm (a ∷ x) (b ∷ y) =
    let first : a + b ≡ b + a = omega arith in
    λ i. first i ∷ point_sum_comm x y i

-- moved by points that add up to 0, it is the polynomial
moved_away : (m n : ℕ) (s t : List ℕ) (p : List (List ℕ × ℕ)) → Supported (HasPlaces n) p → AreCongruent m (point_sum t s) [] → AreAlike m (moved s (moved t p)) p
moved_away m n s t p places none e =
    ap (λ c. c % m) (moved-moved n s t p places e) ∙
    moved-congruent m (point_sum t s) [] p none e ∙
    ap (λ c. c % m) (moved-nothing n p places e)

-- moved back and then forth, or forth and then back, it is the polynomial
pub moved_forth : (m n : ℕ) (s : List ℕ) (p : List (List ℕ × ℕ)) → Supported (HasPlaces n) p → ((k : ℕ) → get_or s k 0 ≤ m) → AreAlike m (moved s (moved (negatives m s) p)) p
moved_forth m n s p places low = moved_away m n s (negatives m s) p places (negatives-cancel m s low)

pub moved_back : (m n : ℕ) (s : List ℕ) (p : List (List ℕ × ℕ)) → Supported (HasPlaces n) p → ((k : ℕ) → get_or s k 0 ≤ m) → AreAlike m (moved (negatives m s) (moved s p)) p
moved_back m n s p places low =
    moved_away m n (negatives m s) s p places
    (subst (λ (x : List ℕ). AreCongruent m x []) (point_sum_comm (negatives m s) s) (negatives-cancel m s low))

-- ---- a polynomial that is another one moved

-- a coefficient that isn't 0 stands at a monomial of the polynomial
pub supported-coefficient : (L : List ℕ → Type 0) (p : List (List ℕ × ℕ)) (e : List ℕ) → Supported L p → coefficient e p ≢ 0 → L e
supported-coefficient L [] e all some = absurd (some refl)
supported-coefficient L (t ∷ p) e all some = by (is_same t.0 e) refl (supported-coefficient L p e all.1)
  where
    by : (b : Bool) → is_same t.0 e ≡ b → (coefficient e p ≢ 0 → L e) → L e
    by true is rest = subst L (is_same-true t.0 e is) all.0
    by false is rest = rest (λ none. some (ap (λ b. (if b then t.1 else 0) + coefficient e p) is ∙ omega (arith, none)))

-- the monomials of a normal list are those with coefficients
Supported-normal : (L : List ℕ → Type 0) (p : List (List ℕ × ℕ)) → IsNormal p → ((e : List ℕ) → coefficient e p ≢ 0 → L e) → Supported L p
Supported-normal L [] normal all = tt
Supported-normal L (t ∷ p) normal all = (
  all t.0 (λ none. normal.0 (omega (arith, ap (λ b. (if b then t.1 else 0) + coefficient t.0 p) (sym (is_same-itself t.0)), none))),
  Supported-normal L p normal.2 (λ e some. all e (λ none. some (omega (arith, none)))),
)

-- a normal list with the coefficients of another, modulo m, has no other monomials
pub Supported-coefficients : (L : List ℕ → Type 0) (m : ℕ) (p q : List (List ℕ × ℕ)) → IsNormal p → ((e : List ℕ) → coefficient e p ≡ coefficient e q % m) → Supported L q → Supported L p
Supported-coefficients L m p q normal same all =
    Supported-normal L p normal (λ e some. supported-coefficient L q e all (λ none. some (same e ∙ ap (λ c. c % m) none ∙ zero-mod m)))

module _ (m : ℕ) (s : List ℕ) (p q : List (List ℕ × ℕ)) (is : IsMoved m s p q) where
  pub IsMoved-alike : AreAlike m q (moved s p)
  IsMoved-alike e = ap (λ c. c % m) (is.coefficients e) ∙ mod-mod (coefficient e (moved s p)) m

  pub IsMoved-value : (y : List ℕ) → value_at q y % m ≡ value_at p (point_sum y s) % m
  IsMoved-value y =
      value-alike m q (moved s p) y IsMoved-alike ∙ ap (λ v. v % m) (value-moved s p y ∙ ap (value_at p) (point_sum_comm s y))

  pub IsMoved-within : (b : Bound) → IsWithin b p → IsWithin b q
  IsMoved-within b within =
      Supported-coefficients (WithinBound b) m q (moved s p) is.polynomial.0 is.coefficients (Supported-moved (WithinBound b) s p (WithinBound-lower b) within)

  -- moved by a point that undoes it, it has the coefficients that were
  pub IsMoved-undone : (t : List ℕ) → 0 < m → IsPolynomial p → AreResidues m p → AreCongruent m (point_sum s t) [] → (e : List ℕ) → coefficient e (moved t q) % m ≡ coefficient e p
  IsMoved-undone t some polynomial low none e =
      moved-alike m t q (moved s p) IsMoved-alike e ∙
      moved_away m 8 t s p polynomial.1 none e ∙
      mod-eq_of_lt (coefficient-residue m e p some polynomial.0 low)
