-- The numbers from 1 to 130 are units at both moduli, so that points near one another are apart.
use Rattle.std.proofs.Common.{◌≡◌, ℕ, zero, suc, List, [], ◌∷◌, length, slice_index, nat_lt, ◌+◌, ◌-◌, ◌*◌, ◌/◌, ◌%◌, ◌<◌, ◌≤◌, ◌==◌, if◌then◌else◌, Bool, true, false, refl, ◌∙◌, ap, arith, inl, inr, ne_eqb}
use Rattle.std.proofs.Math.Nat.{add-mul-mod_self_right}
use Rattle.std.proofs.lemmas.Bool.{cases_eq}
use Rattle.std.proofs.lemmas.Bool.Decides.{nat_tests}
use Rattle.std.proofs.lemmas.Nat.{div-add-mod'}
use Rattle.prime_field.specs.declared.Modulus.{Modulus}
use Rattle.prime_field.specs.declared.Modulus.TheVariants.{First, Second}
use Rattle.prime_field.specs.Modulus.{value_of}
use Rattle.prime_field.proofs.Residues.{add-cong}
use Rattle.univariate.specs.Univariate.{AreApart}

-- for some number below c, d divides 1 more than m times it
divides_some : ℕ → ℕ → ℕ → Bool
divides_some m d zero = false
divides_some m d (suc c) = if (1 + m * c) % d == 0 then true else divides_some m d c

-- so it is for each number from 1 to d
all_divide : ℕ → ℕ → Bool
all_divide m zero = true
all_divide m (suc d) = if divides_some m (suc d) (suc d) then all_divide m d else false

-- the quotient is the inverse
inverse-of_divisor : (m d c : ℕ) → divides_some m d c ≡ true → (b : ℕ) × ((d * b) % m ≡ 1 % m)
unfolding divides_some
inverse-of_divisor m d zero test = absurd (cc)
inverse-of_divisor m d (suc c) test =
    elim (cases_eq ((1 + m * c) % d) 0) [
      | inl divides ↦ (
        (1 + m * c) / d,
        ap (λ t. t % m) (whole divides) ∙ add-mul-mod_self_right 1 c m,
      )
      | inr other ↦ inverse-of_divisor m d c (rw ne_eqb at test)
    ]
  where
    whole : (1 + m * c) % d ≡ 0 → d * ((1 + m * c) / d) ≡ 1 + c * m
    whole divides = omega (arith, divides, div-add-mod' (1 + m * c) d)

both : (b c : Bool) → (if b then c else false) ≡ true → (b ≡ true) × (c ≡ true)
both true c test = (refl, test)
both false c test = absurd (cc)

-- each of the numbers that were tried has an inverse
inverse-up_to : (m n d : ℕ) → all_divide m n ≡ true → 0 < d → d ≤ n → (b : ℕ) × ((d * b) % m ≡ 1 % m)
unfolding all_divide
inverse-up_to m zero d test some within = absurd (omega arith)
inverse-up_to m (suc n) d test some within =
    let tests = both (divides_some m (suc n) (suc n)) (all_divide m n) test in
    elim (cases_eq d (suc n)) [
      | inl last ↦ rw last (inverse-of_divisor m (suc n) (suc n) tests.0)
      | inr other ↦ inverse-up_to m n d tests.1 some (omega arith)
    ]

both_divide : (m : Modulus) → all_divide (value_of m) 130 ≡ true
unfolding all_divide divides_some
both_divide First = refl
both_divide Second = refl

-- points that rise by 130 at most are apart
pub near-apart : (m : Modulus) (n : ℕ) (f : ℕ → ℕ) → ((i j : ℕ) → i < j → j < n → (f i < f j) × (f j ≤ f i + 130)) → AreApart (value_of m) n f
near-apart m n f near i j before below =
    let d = f j - f i in
    let inverse = inverse-up_to (value_of m) 130 d (both_divide m) (omega (arith, near i j before below)) (omega (arith, near i j before below)) in
    let b = inverse.0 in
    let whole : f j ≡ f i + d = omega (arith, near i j before below) in (
      b,
      ap (λ t. (t * b) % value_of m) whole ∙ ap (λ t. t % value_of m) (omega arith) ∙
          add-cong (value_of m) (f i * b) (f i * b) (d * b) 1 refl inverse.1,
    )

-- at most 131 numbers in a row are apart
pub row-apart : (m : Modulus) (n a : ℕ) → n ≤ 131 → AreApart (value_of m) n (λ k. a + k)
row-apart m n a few = near-apart m n (λ k. a + k) (λ i j before below. (omega arith, omega arith))

-- each entry is above a, by 130 at most
abbrev pub near_all : ℕ → List ℕ → Bool
near_all a [] = true
near_all a (b ∷ p) = if nat_lt a b then (if nat_lt b (a + 131) then near_all a p else false) else false

-- each later entry is above each earlier one, by 130 at most
abbrev pub are_near : List ℕ → Bool
are_near [] = true
are_near (a ∷ p) = if near_all a p then are_near p else false

lt-of_test : (a b : ℕ) → nat_lt a b ≡ true → a < b
lt-of_test a b test = grind (arith, nat_tests)

near_all-at : (a : ℕ) (p : List ℕ) → near_all a p ≡ true → (k : ℕ) → k < length p → (a < slice_index p k) × (slice_index p k ≤ a + 130)
near_all-at a [] test k low = absurd (omega arith)
near_all-at a (b ∷ p) test zero low =
    let first = both (nat_lt a b) (if nat_lt b (a + 131) then near_all a p else false) test in
    let second = both (nat_lt b (a + 131)) (near_all a p) first.1 in
    (lt-of_test a b first.0, omega (arith, lt-of_test b (a + 131) second.0))
near_all-at a (b ∷ p) test (suc k) low =
    let first = both (nat_lt a b) (if nat_lt b (a + 131) then near_all a p else false) test in
    near_all-at a p (both (nat_lt b (a + 131)) (near_all a p) first.1).1 k (omega arith)

are_near-at : (p : List ℕ) → are_near p ≡ true → (i j : ℕ) → i < j → j < length p → (slice_index p i < slice_index p j) × (slice_index p j ≤ slice_index p i + 130)
are_near-at [] test i j before low = absurd (omega arith)
are_near-at (a ∷ p) test i zero before low = absurd (omega arith)
are_near-at (a ∷ p) test zero (suc j) before low = near_all-at a p (both (near_all a p) (are_near p) test).0 j (omega arith)
are_near-at (a ∷ p) test (suc i) (suc j) before low = are_near-at p (both (near_all a p) (are_near p) test).1 i j (omega arith) (omega arith)

-- a written list of points that are near one another: its test computes
pub listed-apart : (m : Modulus) (p : List ℕ) → are_near p ≡ true → AreApart (value_of m) (length p) (slice_index p)
listed-apart m p test = near-apart m (length p) (slice_index p) (are_near-at p test)
