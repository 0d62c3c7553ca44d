-- One level of inverse differences after another, as they stand in the words.
use Rattle.std.proofs.Common.{◌≡◌, ℕ, suc, ◌+◌, ◌-◌, ◌*◌, ◌%◌, ◌<◌, ◌≤◌, All, List, length, take, drop, slice_index, refl, sym, ◌∙◌, ap, subst, arith, inl, inr}
use Rattle.std.proofs.lemmas.Bool.{cases_eq, cases_lt}
use Rattle.std.proofs.lemmas.List.{get_or-drop, length-drop, take_all}
use Rattle.std.proofs.lemmas.List.Elements.{All-get_or, All-from_get_or}
use Rattle.prime_field.specs.Inverses.{AreInverses}
use Rattle.prime_field.specs.Residue.{IsUnit}
use Rattle.prime_field.proofs.Residues.{mul-cong}
use Rattle.prime_field.proofs.Units.{unit-cong}
use Rattle.newton_interp.proofs.Words.{reduced}
use Rattle.thiele_interp.specs.Thiele.{quotient, inverse_difference, ClosesAt}
use Rattle.thiele_interp.proofs.Closing.{quotient-is}

-- a product of what was reduced
pub quotient-written : (m x a y made : ℕ) → x ≡ a % m → made ≡ (x * y) % m → made ≡ (a * y) % m
quotient-written m x a y made x_is made_is = made_is ∙ mul-cong m x a y y (reduced m x a x_is) refl

-- the reduced divisors are units where the divisors are
pub units-of_all : (m k n : ℕ) (differences divisors : List ℕ) → suc k + length divisors ≡ n →
    ((i : ℕ) → i < length divisors → slice_index divisors i ≡ (slice_index differences (suc k + i) + (m - slice_index differences k)) % m) →
    All (IsUnit m) divisors → (j : ℕ) → k < j → j < n → IsUnit m (slice_index differences j + (m - slice_index differences k))
units-of_all m k n differences divisors lengths divisors_are all j after within =
    let i = j - suc k in
    let place : suc k + i ≡ j = omega arith in
    let low : i < length divisors = omega arith in
    unit-cong m (slice_index divisors i) (slice_index differences j + (m - slice_index differences k))
    (reduced m (slice_index divisors i) (slice_index differences (suc k + i) + (m - slice_index differences k)) (divisors_are i low) ∙
    ap (λ p. (slice_index differences p + (m - slice_index differences k)) % m) place)
    (All-get_or (IsUnit m) divisors i 0 low all)

pub all-of_units : (m k n : ℕ) (differences divisors : List ℕ) → suc k + length divisors ≡ n →
    ((i : ℕ) → i < length divisors → slice_index divisors i ≡ (slice_index differences (suc k + i) + (m - slice_index differences k)) % m) →
    ((j : ℕ) → k < j → j < n → IsUnit m (slice_index differences j + (m - slice_index differences k))) → All (IsUnit m) divisors
all-of_units m k n differences divisors lengths divisors_are units =
    All-from_get_or (IsUnit m) divisors 0
    (λ i low.
    unit-cong m (slice_index differences (suc k + i) + (m - slice_index differences k)) (slice_index divisors i)
    (sym (reduced m (slice_index divisors i) (slice_index differences (suc k + i) + (m - slice_index differences k)) (divisors_are i low)))
    (units (suc k + i) (omega arith) (omega arith)))

-- with the inverses, the quotients are those of the next level
pub later-quotients : (m k n : ℕ) (points differences divisors inverses made : List ℕ) → suc k + length divisors ≡ n → AreInverses m divisors inverses →
    ((i : ℕ) → i < length divisors → slice_index divisors i ≡ (slice_index differences (suc k + i) + (m - slice_index differences k)) % m) →
    ((i : ℕ) → i < length inverses → slice_index made (suc k + i) ≡ ((slice_index points (suc k + i) + (m - slice_index points k)) * slice_index inverses i) % m) →
    (j : ℕ) → k < j → j < n → slice_index made j ≡ quotient m (slice_index points j + (m - slice_index points k)) (slice_index differences j + (m - slice_index differences k))
later-quotients m k n points differences divisors inverses made lengths are divisors_are made_are j after within =
    let i = j - suc k in
    let place : suc k + i ≡ j = omega arith in
    let same : length inverses ≡ length divisors = are.lengths in
    let low : i < length divisors = omega arith in
    let divisor = slice_index differences (suc k + i) + (m - slice_index differences k) in
    subst (λ (p : ℕ). slice_index made p ≡ quotient m (slice_index points p + (m - slice_index points k)) (slice_index differences p + (m - slice_index differences k))) place
    (made_are i (omega arith) ∙
    sym (quotient-is m (slice_index points (suc k + i) + (m - slice_index points k)) divisor (slice_index inverses i) (are.residues i low)
    (mul-cong m divisor (slice_index divisors i) (slice_index inverses i) (slice_index inverses i) (sym (reduced m (slice_index divisors i) divisor (divisors_are i low))) refl ∙
    are.products i low)))

-- the part from a place on
pub part-is : (k : ℕ) (differences : List ℕ) → take (length differences - k) (drop k differences) ≡ drop k differences
part-is k differences = take_all (length differences - k) (drop k differences) (omega (arith, length-drop k differences))

-- entries of a part that are all the same
pub same-from : (k n : ℕ) (differences : List ℕ) (f : ℕ → ℕ) → k < n → ((j : ℕ) → k ≤ j → j < n → slice_index differences j ≡ f j) → length differences ≡ n →
    ((i : ℕ) → i < length (drop k differences) → slice_index (drop k differences) i ≡ slice_index (drop k differences) 0) → (j : ℕ) → k < j → j < n → f j ≡ f k
same-from k n differences f inside are lengths same j after within =
    let i = j - k in
    let place : k + i ≡ j = omega arith in
    let first : k + 0 ≡ k = omega arith in
    sym (are j (omega arith) within) ∙
    ap (slice_index differences) (sym place) ∙
    sym (get_or-drop k differences i 0) ∙
    same i (omega (arith, length-drop k differences)) ∙
    get_or-drop k differences 0 0 ∙
    ap (slice_index differences) first ∙
    are k (omega arith) inside

pub from-same : (k n : ℕ) (differences : List ℕ) (f : ℕ → ℕ) → k < n → ((j : ℕ) → k ≤ j → j < n → slice_index differences j ≡ f j) → length differences ≡ n →
    ((j : ℕ) → k < j → j < n → f j ≡ f k) → (i : ℕ) → i < length (drop k differences) → slice_index (drop k differences) i ≡ slice_index (drop k differences) 0
from-same k n differences f inside are lengths same i low =
    let first : k + 0 ≡ k = omega arith in
    let within : k + i < n = omega (arith, length-drop k differences) in
    get_or-drop k differences i 0 ∙
    are (k + i) (omega arith) within ∙
    elim (cases_eq i 0) [
      | inl none ↦ ap (λ x. f (k + x)) none ∙ ap f first
      | inr some ↦ same (k + i) (omega arith) within
    ] ∙
    sym (are k (omega arith) inside) ∙
    ap (slice_index differences) (sym first) ∙
    sym (get_or-drop k differences 0 0)

-- a divisor of the level in the words
pub unit-at : (m k n : ℕ) (differences : List ℕ) (f : ℕ → ℕ) → k < n → ((j : ℕ) → k ≤ j → j < n → slice_index differences j ≡ f j) → (j : ℕ) → k < j → j < n →
    IsUnit m (f j + (m - f k)) → IsUnit m (slice_index differences j + (m - slice_index differences k))
unit-at m k n differences f inside are j after within unit =
    subst (λ (x : ℕ). IsUnit m x) (ap (λ x. x + (m - f k)) (sym (are j (omega arith) within)) ∙ ap (λ x. slice_index differences j + (m - x)) (sym (are k (omega arith) inside))) unit

pub at-unit : (m k n : ℕ) (differences : List ℕ) (f : ℕ → ℕ) → k < n → ((j : ℕ) → k ≤ j → j < n → slice_index differences j ≡ f j) → (j : ℕ) → k < j → j < n →
    IsUnit m (slice_index differences j + (m - slice_index differences k)) → IsUnit m (f j + (m - f k))
at-unit m k n differences f inside are j after within unit =
    subst (λ (x : ℕ). IsUnit m x) (ap (λ x. x + (m - slice_index differences k)) (are j (omega arith) within) ∙ ap (λ x. f j + (m - x)) (are k (omega arith) inside)) unit

-- where the level isn't the same everywhere, the form doesn't close up to it
pub open-up_to : (m k n : ℕ) (t v : ℕ → ℕ) (differences : List ℕ) → k < n → ((j : ℕ) → k ≤ j → j < n → slice_index differences j ≡ inverse_difference m t v k j) → length differences ≡ n →
    (((i : ℕ) → i < length (drop k differences) → slice_index (drop k differences) i ≡ slice_index (drop k differences) 0) → ⊥) →
    ((e : ℕ) → e < k → ClosesAt m n t v e → ⊥) → (e : ℕ) → e ≤ k → ClosesAt m n t v e → ⊥
open-up_to m k n t v differences inside are lengths not_same before e until closes =
    elim (cases_eq e k) [
      | inl here ↦
          not_same (from-same k n differences (inverse_difference m t v k) inside are lengths
          (subst (λ (x : ℕ). (j : ℕ) → x < j → j < n → inverse_difference m t v x j ≡ inverse_difference m t v x x) here closes.closed))
      | inr earlier ↦ before e (omega arith) closes
    ]

-- nor later, where a divisor is no unit
pub open-after : (m k n : ℕ) (t v : ℕ → ℕ) (differences : List ℕ) → k < n → ((j : ℕ) → k ≤ j → j < n → slice_index differences j ≡ inverse_difference m t v k j) →
    (((j : ℕ) → k < j → j < n → IsUnit m (slice_index differences j + (m - slice_index differences k))) → ⊥) →
    ((e : ℕ) → e ≤ k → ClosesAt m n t v e → ⊥) → (e : ℕ) → ClosesAt m n t v e → ⊥
open-after m k n t v differences inside are not_units until e closes =
    elim (cases_lt k e) [
      | inl later ↦
          not_units (λ j after within.
          unit-at m k n differences (inverse_difference m t v k) inside are j after within (closes.units k j later after within))
      | inr not_later ↦ until e not_later closes
    ]

-- the units of one level more
pub units-more : (m k n : ℕ) (t v : ℕ → ℕ) →
    ((i j : ℕ) → i < k → i < j → j < n → IsUnit m (inverse_difference m t v i j + (m - inverse_difference m t v i i))) →
    ((j : ℕ) → k < j → j < n → IsUnit m (inverse_difference m t v k j + (m - inverse_difference m t v k k))) →
    (i j : ℕ) → i < suc k → i < j → j < n → IsUnit m (inverse_difference m t v i j + (m - inverse_difference m t v i i))
units-more m k n t v units more i j low after within =
    elim (cases_eq i k) [
      | inl same ↦
          subst (λ (x : ℕ). IsUnit m (inverse_difference m t v x j + (m - inverse_difference m t v x x))) (sym same) (more j (omega arith) within)
      | inr earlier ↦ units i j (omega arith) after within
    ]

-- the quotients of the words are those of the level
pub next-difference : (m k n : ℕ) (t v : ℕ → ℕ) (differences made : List ℕ) → k < n → ((j : ℕ) → k ≤ j → j < n → slice_index differences j ≡ inverse_difference m t v k j) →
    ((j : ℕ) → k < j → j < n → slice_index made j ≡ quotient m (t j + (m - t k)) (slice_index differences j + (m - slice_index differences k))) →
    (j : ℕ) → k < j → j < n → slice_index made j ≡ inverse_difference m t v (suc k) j
next-difference m k n t v differences made inside are made_are j after within =
    made_are j after within ∙
    ap (λ x. quotient m (t j + (m - t k)) (x + (m - slice_index differences k))) (are j (omega arith) within) ∙
    ap (λ x. quotient m (t j + (m - t k)) (inverse_difference m t v k j + (m - x))) (are k (omega arith) inside)
