-- The fraction that Euclid's last remainder and its factor make.
use Rattle.std.proofs.Common.{◌≡◌, ℕ, zero, suc, ◌+◌, ◌*◌, ◌%◌, ◌<◌, ◌≤◌, ◌⊎◌, inl, inr, Bool, true, false, ℤ, pos, negsuc, unsigned_abs, refl, sym, ◌∙◌, ap, subst, arith}
use Rattle.std.proofs.Common.{◌-◌, ◌^◌, ◌-ℤ◌, ◌↔◌, IsTrue, not, nat_eq, to_z, of_z, to_z-of_z}
use Rattle.std.proofs.Math.Facts.{to_z_pos}
use Rattle.std.proofs.Math.Nat.{dvd-mul_right, eq-one_of_dvd-one, mod-eq_of_lt, add-mul-mod_self_right}
use Rattle.std.proofs.lemmas.Nat.{mod_below, mul-mod_second}
use Rattle.std.proofs.Math.IntN.{+ℤ_idl}
use borrow.Author.Differences.{fits_in}
use Rattle.prime_field.proofs.Residues.{add-cong, cancel}
use Rattle.std.specs.Int.{IsGcd, ◌∣◌, w128}
use Rattle.prime_field.specs.Residue.{IsUnit}
use Rattle.prime_field.proofs.Euclid.{HasSigns, Kept-at, zero-no_unit}
use Rattle.poly_maps.specs.declared.fraction.Frac.{Frac}
use Rattle.rational_lift.specs.Recovery.{IsRecovery, IsTied}
use Rattle.rational_lift.proofs.Nearest.{Step, Leaves, nearest}
use Rattle.rational_lift.proofs.Ties.{residue-tied}

-- the number, or its opposite
abbrev pub signed : Bool → ℕ → ℤ
signed false n = pos n
signed true zero = pos 0
signed true (suc n) = negsuc n

pub signed-size : (s : Bool) (n : ℕ) → unsigned_abs (signed s n) ≡ n
signed-size false n = refl
signed-size true zero = refl
signed-size true (suc n) = refl

pub signed-zero : (s : Bool) → signed s 0 ≡ pos 0
signed-zero false = refl
signed-zero true = refl

pub signed-tied : (m c above rest earlier factor : ℕ) (s : Bool) → HasSigns m c above rest earlier factor s → IsTied m c (signed s rest) factor
signed-tied m c above rest earlier factor false signs = signs.0
signed-tied m c above zero earlier factor true signs = ap (λ t. t % m) (omega arith) ∙ signs.0
signed-tied m c above (suc rest) earlier factor true signs = ap (λ t. t % m) (omega arith) ∙ signs.0

pub signed-no_unit : (m c n above rest earlier factor : ℕ) (s : Bool) → Step m c n above rest earlier factor s → signed s rest ≡ pos 0 → IsUnit m c → ⊥
signed-no_unit m c n above rest earlier factor s step none =
    let gone : rest ≡ 0 = sym (signed-size s rest) ∙ ap unsigned_abs none in
    zero-no_unit m c above earlier factor s (Kept-at 0 s gone refl step.kept)

-- ---- in 128 bits

small : (z : ℤ) → unsigned_abs z < 2 ^ 127 → to_z w128 (of_z w128 z) ≡ z
small (pos n) low = to_z-of_z (fits_in w128 (pos n) (omega arith))
small (negsuc n) low = to_z-of_z (fits_in w128 (negsuc n) (omega arith))

pub positive-read : (n : ℕ) → n < 2 ^ 124 → to_z w128 n ≡ signed false n
positive-read n low = to_z_pos w128 (omega arith)

pub negative-read : (n : ℕ) → n < 2 ^ 124 → to_z w128 (of_z w128 (pos 0 -ℤ to_z w128 n)) ≡ signed true n
negative-read n low = ap (λ z. to_z w128 (of_z w128 (pos 0 -ℤ z))) (positive-read n low) ∙ by n low
  where
    turned : (n : ℕ) → pos 0 -ℤ pos (suc n) ≡ negsuc n
    turned n = +ℤ_idl (negsuc n)

    by : (n : ℕ) → n < 2 ^ 124 → to_z w128 (of_z w128 (pos 0 -ℤ pos n)) ≡ signed true n
    by zero low = refl
    by (suc n) low = ap (λ z. to_z w128 (of_z w128 z)) (turned n) ∙ small (negsuc n) (omega arith)

-- ---- units

one-left : (m : ℕ) → 1 < m → 1 % m ≡ 1
one-left m more = mod-eq_of_lt more

unit_tied : (m a t : ℕ) → 1 < m → (a * t) % m ≡ 1 % m → IsUnit m a
unit_tied m a t more tied = (t % m, mod_below t m (omega arith), mul-mod_second a t m ∙ tied ∙ one-left m more)

unit_opposed : (m a t : ℕ) → 1 < m → (a * t + 1) % m ≡ 0 % m → IsUnit m a
unit_opposed m a t more tied =
    let n : ℕ = m - 1 in
    let whole : n + 1 ≡ m = omega arith in
    unit_tied m a (n * t) more (cancel m (a * (n * t)) 1 (a * t + 1) (
    ap (λ s. s % m) (omega (arith, ap (λ s. a * t * s) whole)) ∙
    add-mul-mod_self_right 1 (a * t) m ∙
    ap (λ s. s % m) (omega arith) ∙
    add-cong m 1 1 0 (a * t + 1) refl (sym tied)))

-- a is a unit where the last remainder by 1 isn't 0
pub unit_test : (m a t : ℕ) (z : ℤ) → 1 < m → unsigned_abs z ≤ 1 → IsTied m a z t → (z ≡ pos 0 → IsUnit m a → ⊥) → IsTrue (not (nat_eq (of_z w128 z) 0)) ↔ IsUnit m a
unit_test m a t (pos zero) more low tied none = (λ wrong. cc, λ unit. absurd (none refl unit))
unit_test m a t (pos (suc zero)) more low tied none = (λ _. unit_tied m a t more tied, λ _. refl)
unit_test m a t (pos (suc (suc n))) more low tied none = absurd (omega arith)
unit_test m a t (negsuc zero) more low tied none = (λ _. unit_opposed m a t more tied, λ _. refl)
unit_test m a t (negsuc (suc n)) more low tied none = absurd (omega arith)

-- ---- one fraction

-- a common factor of numbers in lowest terms is 1
factor-one : (a b k r t : ℕ) → IsGcd a b 1 → a ≡ k * r → b ≡ k * t → k ≡ 1
factor-one a b k r t lowest first second =
    eq-one_of_dvd-one (lowest.2 k (subst (λ n. k ∣ n) (sym first) (dvd-mul_right k r)) (subst (λ n. k ∣ n) (sym second) (dvd-mul_right k t)))

record IsSame (q s : Bool) (a b r t : ℕ) : Type 0 where
  sign : (q ≡ s) ⊎ (a ≡ 0)
  num : a ≡ r
  den : b ≡ t

same_parts : (m c n d above rest earlier factor : ℕ) (s : Bool) → Step m c n above rest earlier factor s → rest ≤ n → 2 * (n * d) < m → (q : Bool) (a b : ℕ) → a ≤ n → b ≤ d → Leaves q m c a b → IsGcd a b 1 → IsSame q s a b rest factor
same_parts m c n d above rest earlier factor s step low narrow q a b a_low b_low leaves lowest =
    let found = nearest m c n d above rest earlier factor s step low narrow q a b a_low b_low leaves in
    let one : found.1.0 ≡ 1 = factor-one a b found.1.0 rest factor lowest found.1.1 found.1.2 in
    record {
      sign = found.0;
      num = omega (arith, found.1.1, ap (λ t. t * rest) one);
      den = omega (arith, found.1.2, ap (λ t. t * factor) one);
    }

same-pos : (s : Bool) (a b rest factor : ℕ) → IsSame false s a b rest factor → pos a ≡ signed s rest
same-pos false a b rest factor same = ap pos same.num
same-pos true a b rest factor same = elim same.sign [
  | inl wrong ↦ cc
  | inr none ↦ let gone : 0 ≡ rest = omega (arith, none, same.num) in ap pos none ∙ ap (signed true) gone
]

same-neg : (s : Bool) (a b rest factor : ℕ) → IsSame true s (suc a) b rest factor → negsuc a ≡ signed s rest
same-neg true a b rest factor same = ap (signed true) same.num
same-neg false a b rest factor same = elim same.sign [
  | inl wrong ↦ cc
  | inr none ↦ absurd (omega (arith, none))
]

-- no other fraction leaves c
pub candidate_only : (m c n d above rest earlier factor : ℕ) (s : Bool) → Step m c n above rest earlier factor s → rest ≤ n → 2 * (n * d) < m → (f : Frac) → IsRecovery m c n d f → f ≡ record { num = signed s rest; den = factor }
candidate_only m c n d above rest earlier factor s step low narrow f is = by f.num refl
  where
    tied : IsTied m c f.num f.den
    tied = residue-tied m c f (omega (arith, narrow)) is.unit is.residue

    by : (z : ℤ) → f.num ≡ z → f ≡ record { num = signed s rest; den = factor }
    by (pos a) is_z =
        let same = same_parts m c n d above rest earlier factor s step low narrow false a f.den (subst (λ z. unsigned_abs z ≤ n) is_z is.num) is.den (subst (λ z. IsTied m c z f.den) is_z tied) (subst (λ z. IsGcd (unsigned_abs z) f.den 1) is_z is.lowest.lowest) in
        let num : f.num ≡ signed s rest = is_z ∙ same-pos s a f.den rest factor same in
        λ i. record { num = num i; den = same.den i }
    by (negsuc a) is_z =
        let leaves : Leaves true m c (suc a) f.den = ap (λ t. t % m) (omega arith) ∙ subst (λ z. IsTied m c z f.den) is_z tied in
        let same = same_parts m c n d above rest earlier factor s step low narrow true (suc a) f.den (subst (λ z. unsigned_abs z ≤ n) is_z is.num) is.den leaves (subst (λ z. IsGcd (unsigned_abs z) f.den 1) is_z is.lowest.lowest) in
        let num : f.num ≡ signed s rest = is_z ∙ same-neg s a f.den rest factor same in
        λ i. record { num = num i; den = same.den i }
