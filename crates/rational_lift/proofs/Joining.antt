-- Two residues at the two moduli, and the one number below their product that has them.
use Rattle.std.proofs.Common.{◌≡◌, ℕ, ◌+◌, ◌-◌, ◌*◌, ◌/◌, ◌%◌, ◌<◌, ◌≤◌, inl, inr, refl, sym, ◌∙◌, ap, arith}
use Rattle.std.proofs.lemmas.Bool.{cases_lt}
use Rattle.std.proofs.lemmas.Nat.{div-add-mod', mod_below, mul-mod_second}
use Rattle.std.proofs.Math.Nat.{mod-eq_of_lt, mod-mod, add-mul-mod_self_right, zero-mod}
use Rattle.prime_field.specs.Modulus.{value_of}
use Rattle.prime_field.specs.Residue.{IsUnit}
use Rattle.prime_field.specs.declared.Modulus.{Modulus}
use Rattle.prime_field.specs.declared.Modulus.TheVariants.{First, Second}
use Rattle.prime_field.proofs.Residues.{add-cong, mul-cong, cancel}
use Rattle.prime_field.proofs.Units.{cancel_unit}
use Rattle.rational_lift.specs.Joined.{both, IsJoint, at_each}

-- the first modulus is a unit modulo the second
pub first_unit : IsUnit (value_of Second) (value_of First)
first_unit = (8784163844623595984, omega arith, refl)

-- a multiple of both moduli that is below their product is 0
multiple-zero : (k : ℕ) → value_of First * k < both → (value_of First * k) % value_of Second ≡ 0 → k ≡ 0
multiple-zero k low none =
    let gone : k % value_of Second ≡ 0 % value_of Second =
    cancel_unit (value_of Second) k 0 (value_of First) first_unit (ap (λ t. t % value_of Second) (omega arith) ∙ none ∙ sym (zero-mod (value_of Second))) in
    let small : k < value_of Second = omega arith in
    sym (mod-eq_of_lt small) ∙ gone ∙ zero-mod (value_of Second)

-- of two congruent numbers the greater one is a multiple above
above_by : (m a b : ℕ) → 0 < m → a ≤ b → a % m ≡ b % m → (k : ℕ) × (b ≡ a + m * k)
above_by m a b some low same = ((b - a) / m, omega (arith, div-add-mod' (b - a) m, gone))
  where
    gone : (b - a) % m ≡ 0
    gone = sym (cancel m 0 (b - a) a (ap (λ t. t % m) (omega arith) ∙ same ∙ ap (λ t. t % m) (omega arith))) ∙ zero-mod m

ordered_same : (a b : ℕ) → a ≤ b → b < both → ((m : Modulus) → a % value_of m ≡ b % value_of m) → a ≡ b
ordered_same a b low high same =
    let found = above_by (value_of First) a b (omega arith) low (same First) in
    let k : ℕ = found.0 in
    let gone : (value_of First * k) % value_of Second ≡ 0 =
    cancel (value_of Second) (value_of First * k) 0 a (ap (λ t. t % value_of Second) (omega (arith, found.1)) ∙ sym (same Second) ∙ ap (λ t. t % value_of Second) (omega arith)) ∙ zero-mod (value_of Second) in
    let none : k ≡ 0 = multiple-zero k (omega (arith, found.1)) gone in
    omega (arith, found.1, ap (λ t. value_of First * t) none)

-- numbers below the product with the same residues at both moduli are the same
pub joined_once : (a b : ℕ) → a < both → b < both → ((m : Modulus) → a % value_of m ≡ b % value_of m) → a ≡ b
joined_once a b a_low b_low same = elim (cases_lt a b) [
  | inl less ↦ ordered_same a b (omega arith) b_low same
  | inr more ↦ sym (ordered_same b a (omega arith) a_low (λ m. sym (same m)))
]

-- ---- the number with the residues given

-- by how many first moduli it is above the first residue
pub factor_of : ℕ → ℕ → ℕ
factor_of first second = ((second + (value_of Second - first)) % value_of Second * 8784163844623595984) % value_of Second

pub IsJoint-joined : (first second factor : ℕ) → first < value_of First → second < value_of Second →
    factor ≡ ((second + (value_of Second - first)) % value_of Second * 8784163844623595984) % value_of Second → IsJoint (at_each first second) (first + value_of First * factor)
IsJoint-joined first second factor first_low second_low is = record { low = low; leaves = leaves }
  where
    factor_low : factor < value_of Second
    factor_low = omega (arith, is, mod_below ((second + (value_of Second - first)) % value_of Second * 8784163844623595984) (value_of Second) (omega arith))

    low : first + value_of First * factor < both
    low = omega (arith, factor_low)

    leaves : (m : Modulus) → (first + value_of First * factor) % value_of m ≡ at_each first second m
    leaves First = ap (λ t. t % value_of First) (omega arith) ∙ add-mul-mod_self_right first factor (value_of First) ∙ mod-eq_of_lt first_low
    leaves Second =
        let m : ℕ = value_of Second in
        let gap : ℕ = second + (m - first) in
        add-cong m first first (value_of First * factor) (value_of First * (gap % m * 8784163844623595984)) refl
        (ap (λ t. (value_of First * t) % m) is ∙ mul-mod_second (value_of First) (gap % m * 8784163844623595984) m) ∙
        ap (λ t. t % m) (omega arith) ∙
        add-cong m first first (gap % m * (value_of First * 8784163844623595984)) gap refl
        (mul-cong m (gap % m) gap (value_of First * 8784163844623595984) 1 (mod-mod gap m) refl ∙ ap (λ t. t % m) (omega arith)) ∙
        ap (λ t. t % m) (omega arith) ∙
        add-mul-mod_self_right second 1 m ∙
        mod-eq_of_lt second_low
