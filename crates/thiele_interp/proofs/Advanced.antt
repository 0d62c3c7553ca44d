-- What the steps of Thiele's form leave in the words.
use Rattle.std.proofs.Common.{◌≡◌, ◌≢◌, ℕ, zero, suc, ◌+◌, ◌-◌, ◌%◌, ◌<◌, ◌≤◌, List, [], ◌∷◌, take, slice_index, refl, sym, ◌∙◌, ap, arith}
use Rattle.std.proofs.Math.Nat.{zero-mod}
use Rattle.univariate.specs.Univariate.{univariate_value}
use Rattle.univariate.specs.Coefficients.{sum_of, multiple, product_of, IsBelow, Alike, AreResidues, HasLength}
use Rattle.univariate.proofs.Coefficients.{value-alike, alike-sum, alike-multiple}
use Rattle.univariate.proofs.Counting.{take-alike}
use Rattle.univariate.proofs.Products.{product-alike_right}
use Rattle.thiele_interp.specs.Thiele.{thiele_part, FitsPoints}
use Rattle.thiele_interp.proofs.Turns.{HasLength-bounds}

-- a product to which a multiple of the first n coefficients is added
pub advanced : (m n c : ℕ) (product last made next : List ℕ) → IsBelow m n last → Alike m made product → Alike m next (sum_of made (multiple c (take n last))) →
    Alike m next (sum_of product (multiple c last))
advanced m n c product last made next below made_alike next_alike i =
    next_alike i ∙
    alike-sum m made product (multiple c (take n last)) (multiple c last) made_alike
    (alike-multiple m c c (take n last) last refl (λ j. sym (take-alike m n last below j))) i

-- a constant with zeros after it
pub constant-residues : (m c : ℕ) (p : List ℕ) → c < m → ((k : ℕ) → slice_index p k ≡ slice_index (c ∷ []) k) → AreResidues m p
constant-residues m c p low same zero = omega (arith, same 0)
constant-residues m c p low same (suc k) = omega (arith, same (suc k))

-- the zero polynomial
pub zero-alike : (m : ℕ) (p : List ℕ) → ((k : ℕ) → slice_index p k ≡ slice_index (0 ∷ []) k) → Alike m p []
zero-alike m p same zero = ap (λ z. z % m) (same 0)
zero-alike m p same (suc k) = ap (λ z. z % m) (same (suc k))

-- the next polynomial from the last two
pub part-next : (m : ℕ) (t c : ℕ → ℕ) (first second : List ℕ) (k : ℕ) (before last made : List ℕ) → Alike m before (thiele_part m t c first second k) →
    Alike m last (thiele_part m t c first second (suc k)) → Alike m made (sum_of (product_of ((m - t k) ∷ 1 ∷ []) before) (multiple (c (suc k)) last)) →
    Alike m made (thiele_part m t c first second (suc (suc k)))
part-next m t c first second k before last made before_alike last_alike made_alike i =
    let linear = (m - t k) ∷ 1 ∷ [] in
    made_alike i ∙
    alike-sum m (product_of linear before) (product_of linear (thiele_part m t c first second k)) (multiple (c (suc k)) last) (multiple (c (suc k)) (thiele_part m t c first second (suc k)))
    (product-alike_right m linear before (thiele_part m t c first second k) before_alike)
    (alike-multiple m (c (suc k)) (c (suc k)) last (thiele_part m t c first second (suc k)) refl last_alike)
    i

-- a polynomial whose value is 0 at no point has a coefficient
pub some-terms : (m n : ℕ) (t : ℕ → ℕ) (terms : ℕ) (den : List ℕ) → 0 < n → ((i : ℕ) → i < n → univariate_value (take terms den) (t i) % m ≢ 0) → 0 < terms
some-terms m n t zero den some nowhere = absurd (nowhere 0 some (zero-mod m))
some-terms m n t (suc k) den some nowhere = omega arith

-- the tests of a pair, from the coefficients up to the last that isn't 0
pub fits-tests : (m n : ℕ) (t : ℕ → ℕ) (a b l terms : ℕ) (num den : List ℕ) → HasLength l num → l ≤ a + 1 → HasLength terms den → terms ≤ b + 1 →
    ((i : ℕ) → i < n → univariate_value (take terms den) (t i) % m ≢ 0) → FitsPoints m n t a b num den
fits-tests m n t a b l terms num den num_length num_low den_length den_low nowhere = record {
  num_degree = λ i from. HasLength-bounds m l num num_length i (omega arith);
  den_degree = λ i from. HasLength-bounds m terms den den_length i (omega arith);
  nowhere_zero = λ i within none.
      nowhere i within (sym (value-alike m den (take terms den) (t i) (take-alike m terms den (HasLength-bounds m terms den den_length))) ∙ none);
}

pub nowhere-taken : (m n : ℕ) (t : ℕ → ℕ) (a b terms : ℕ) (num den : List ℕ) → HasLength terms den → FitsPoints m n t a b num den →
    (i : ℕ) → i < n → univariate_value (take terms den) (t i) % m ≢ 0
nowhere-taken m n t a b terms num den den_length fits i within none =
    fits.nowhere_zero i within (value-alike m den (take terms den) (t i) (take-alike m terms den (HasLength-bounds m terms den den_length)) ∙ none)
