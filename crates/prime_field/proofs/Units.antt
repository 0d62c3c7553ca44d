-- Units and inverses modulo m: there is one inverse at most, `inverse` finds it, and at a prime each residue but 0 has one.
use Rattle.std.proofs.Common.{◌≡◌, ◌≢◌, ℕ, zero, suc, ◌+◌, ◌*◌, ◌-◌, ◌/◌, ◌%◌, ◌<◌, ◌⊎◌, inl, inr, refl, sym, ◌∙◌, ap, arith, one-mul, mul-one, Some, None, Bool, false, not, ne_eqb}
use Rattle.std.proofs.lemmas.Bool.{cases_eq, cases_lt}
use Rattle.std.proofs.Math.Nat.{mod-eq_of_lt, mod-lt, zero-mod}
use Rattle.std.proofs.lemmas.Nat.{mul-mod_second}
use Rattle.prime_field.specs.Residue.{IsUnit, IsPrime, inverse, inverse_below}
use Rattle.prime_field.proofs.Euclid.{Kept, Kept-start, Kept-next, Kept-at, inverse_found, found-low, found-product, zero-no_prime}
use Rattle.prime_field.proofs.Residues.{mul-cong}

-- two inverses of a are the same
pub inverses_same : (m a b c : ℕ) → b < m → c < m → (a * b) % m ≡ 1 → (a * c) % m ≡ 1 → b ≡ c
inverses_same m a b c b_low c_low b_inverse c_inverse =
    sym (mod-eq_of_lt b_low) ∙
    ap (λ t. t % m) (sym (mul-one b)) ∙
    mul-cong m b b 1 (a * c) refl (one ∙ sym c_inverse) ∙
    ap (λ t. t % m) (omega arith) ∙
    mul-cong m (a * b) 1 c c (b_inverse ∙ sym one) refl ∙
    ap (λ t. t % m) (one-mul c) ∙
    mod-eq_of_lt c_low
  where
    one : 1 % m ≡ 1
    one = mod-eq_of_lt (omega (arith, b_inverse))

-- no number that leaves 1 in a product with a: none is found
inverse_below-none : (m a tried : ℕ) → ((c : ℕ) → c < tried → (a * c) % m ≢ 1) → inverse_below m a tried ≡ None
unfolding inverse_below
inverse_below-none m a zero none = refl
inverse_below-none m a (suc tried) none =
    rw (inverse_below-none m a tried (λ c below. none c (omega arith)), ne_eqb ((a * tried) % m) 1 (none tried (omega arith))) refl

-- a number that leaves 1 in a product with a is found among the first numbers, unless an earlier one is
inverse_below-found : (m a b tried : ℕ) → b < tried → (a * b) % m ≡ 1 → ((c : ℕ) → c < tried → (a * c) % m ≡ 1 → c ≡ b) → inverse_below m a tried ≡ Some b
unfolding inverse_below
inverse_below-found m a b zero low product only = absurd (omega arith)
inverse_below-found m a b (suc tried) low product only =
    elim (cases_eq b tried) [
      | inl last ↦
          rw (inverse_below-none m a tried (λ c below wrong. let same : c ≡ b = only c (omega arith) wrong in omega arith))
          (rw (← last, product) refl)
      | inr other ↦
          rw (inverse_below-found m a b tried (omega arith) product (λ c below wrong. only c (omega arith) wrong)) refl
    ]

-- an inverse is the inverse
pub inverse_is : (m a b : ℕ) → b < m → (a * b) % m ≡ 1 → inverse m a ≡ Some b
unfolding inverse
inverse_is m a b low product =
    inverse_below-found m a b m low product (λ c below other. inverses_same m a c b below low other product)

-- where there is no unit there is no inverse
pub inverse_none : (m a : ℕ) → (IsUnit m a → ⊥) → inverse m a ≡ None
unfolding inverse
inverse_none m a none = inverse_below-none m a m (λ c below product. none (c, below, product))

-- among the first numbers one leaves 1 in a product with a, or none does
found_among : (m a tried : ℕ) → ((b : ℕ) × (b < tried) × ((a * b) % m ≡ 1)) ⊎ ((c : ℕ) → c < tried → (a * c) % m ≢ 1)
found_among m a zero = inr (λ c below wrong. omega arith)
found_among m a (suc tried) =
    elim (found_among m a tried) [
      | inl found ↦ inl (found.0, omega (arith, found.1), found.2)
      | inr none ↦
          elim (cases_eq ((a * tried) % m) 1) [
            | inl last ↦ inl (tried, omega arith, last)
            | inr other ↦ inr (λ c below product.
                elim (cases_eq c tried) [
                  | inl same ↦ other (ap (λ t. (a * t) % m) (sym same) ∙ product)
                  | inr earlier ↦ none c (omega arith) product
                ])
          ]
    ]

-- a number is a unit or it is none
pub unit_cases : (m a : ℕ) → IsUnit m a ⊎ (IsUnit m a → ⊥)
unit_cases m a =
    elim (found_among m a m) [
      | inl unit ↦ inl unit
      | inr none ↦ inr (λ unit. none unit.0 unit.1 unit.2)
    ]

-- the inverse is below m, and its product with a leaves 1
pub inverse-product : (m a b : ℕ) → inverse m a ≡ Some b → (b < m) × ((a * b) % m ≡ 1)
inverse-product m a b given =
    elim (unit_cases m a) [
      | inl unit ↦
          let same : b ≡ unit.0 = cc (given, inverse_is m a unit.0 unit.1 unit.2) in
          rw same (unit.1, unit.2)
      | inr none ↦ absurd (cc (given, inverse_none m a none))
    ]

-- where there is no inverse there is no unit
pub inverse-no_unit : (m a : ℕ) → inverse m a ≡ None → IsUnit m a → ⊥
inverse-no_unit m a given unit = cc (given, inverse_is m a unit.0 unit.1 unit.2)

-- Euclid's steps from the remainders `above` and `rest` of a prime and a to an inverse of a
reach : (fuel m a above rest earlier factor : ℕ) (s : Bool) → rest < fuel → Kept m a above rest earlier factor s → IsPrime m → a < m → a ≢ 0 → IsUnit m a
reach zero m a above rest earlier factor s within kept prime low some = absurd (omega arith)
reach (suc fuel) m a above rest earlier factor s within kept prime low some =
    elim (cases_lt 1 rest) [
      | inl more ↦
          reach fuel m a rest (above - above / rest * rest) factor (earlier + above / rest * factor) (not s)
          (omega arith) (Kept-next m a above rest earlier factor s kept more) prime low some
      | inr few ↦
          elim (cases_eq rest 1) [
            | inl last ↦
                let kept_one = Kept-at 1 s last refl kept in
                (inverse_found s m factor, found-low m a above earlier factor s kept_one, found-product m a above earlier factor s kept_one)
            | inr none ↦
                absurd (zero-no_prime m a above earlier factor s (Kept-at 0 s (omega arith) refl kept) low some prime)
          ]
    ]

-- each residue but 0 is a unit modulo a prime
pub units_of_prime : (m a : ℕ) → IsPrime m → a < m → a ≢ 0 → IsUnit m a
units_of_prime m a prime low some =
    reach (suc a) m a m a 0 1 false (omega arith) (Kept-start m a prime.0 low) prime low some

-- what is congruent to a unit is a unit
pub unit-cong : (m a b : ℕ) → a % m ≡ b % m → IsUnit m a → IsUnit m b
unit-cong m a b same unit =
    (unit.0, unit.1, mul-cong m b a unit.0 unit.0 (sym same) refl ∙ unit.2)

-- the product of two units is a unit
pub unit-mul : (m a b : ℕ) → IsUnit m a → IsUnit m b → IsUnit m (a * b)
unit-mul m a b left right = (
  (left.0 * right.0) % m,
  mod-lt (left.0 * right.0) (omega (arith, left.1)),
  mul-mod_second (a * b) (left.0 * right.0) m ∙
      ap (λ t. t % m) (omega arith) ∙
      mul-cong m (a * left.0) 1 (b * right.0) (b * right.0) (left.2 ∙ sym one) refl ∙
      ap (λ t. t % m) (one-mul (b * right.0)) ∙
      right.2,
)
  where
    one : 1 % m ≡ 1
    one = mod-eq_of_lt (omega (arith, left.1, left.2))

-- a factor of a unit is a unit
pub unit_of_product : (m a b : ℕ) → IsUnit m (a * b) → IsUnit m a
unit_of_product m a b unit = (
  (b * unit.0) % m,
  mod-lt (b * unit.0) (omega (arith, unit.1)),
  mul-mod_second a (b * unit.0) m ∙ ap (λ t. t % m) (omega arith) ∙ unit.2,
)

-- a factor that is a unit may be taken away from both sides
pub cancel_unit : (m a b c : ℕ) → IsUnit m c → (a * c) % m ≡ (b * c) % m → a % m ≡ b % m
cancel_unit m a b c unit same =
    alone a ∙ mul-cong m (a * c) (b * c) unit.0 unit.0 same refl ∙ sym (alone b)
  where
    one : 1 % m ≡ 1
    one = mod-eq_of_lt (omega (arith, unit.1, unit.2))

    alone : (x : ℕ) → x % m ≡ (x * c * unit.0) % m
    alone x =
        ap (λ t. t % m) (sym (mul-one x)) ∙
        mul-cong m x x 1 (c * unit.0) refl (one ∙ sym unit.2) ∙
        ap (λ t. t % m) (omega arith)

-- modulo a prime a product of two residues is 0 only where one of them is
pub zero_of_product : (m a b : ℕ) → IsPrime m → a < m → b < m → (a * b) % m ≡ 0 → (a ≡ 0) ⊎ (b ≡ 0)
zero_of_product m a b prime a_low b_low zero_product =
    elim (cases_eq b 0) [
      | inl none ↦ inr none
      | inr some ↦
          inl (sym (mod-eq_of_lt a_low) ∙
          cancel_unit m a 0 b (units_of_prime m b prime b_low some) (zero_product ∙ sym (zero-mod m) ∙ ap (λ t. t % m) (omega arith)) ∙
          zero-mod m)
    ]
