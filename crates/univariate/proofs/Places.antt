-- From entries, place by place, to sums, multiples and products.
use Rattle.std.proofs.Common.{◌≡◌, ℕ, zero, suc, ◌+◌, ◌-◌, ◌*◌, ◌%◌, ◌<◌, ◌≤◌, List, [], ◌∷◌, length, take, slice_index, refl, sym, ◌∙◌, ap, arith, inl, inr}
use Rattle.std.proofs.lemmas.Bool.{cases_lt}
use Rattle.std.proofs.Math.ListN.{set}
use Rattle.std.proofs.Math.Nat.{mod-mod, mod-eq_of_lt}
use Rattle.univariate.specs.Coefficients.{sum_of, multiple, raised, product_of, Alike, IsBelow, AreResidues, HasLength}
use Rattle.univariate.proofs.Coefficients.{at-beyond, at-sum, at-multiple, at-raised}

-- a raised polynomial past its end
pub at-raised_beyond : (j : ℕ) (p : List ℕ) (i : ℕ) → j + length p ≤ i → slice_index (raised j p) i ≡ 0
at-raised_beyond j p i beyond = at-raised j p i (i - j) (omega arith) ∙ at-beyond p (i - j) (omega arith)

-- entries that are multiples, and nothing past them
pub alike-multiplied : (m c n : ℕ) (p made : List ℕ) → length p ≤ n → ((i : ℕ) → i < n → slice_index made i % m ≡ (c * slice_index p i) % m) → ((i : ℕ) → n ≤ i → slice_index made i ≡ slice_index p i) → Alike m made (multiple c p)
alike-multiplied m c n p made short done rest i =
    elim (cases_lt i n) [
      | inl below ↦ done i below ∙ ap (λ t. t % m) (sym (at-multiple c p i))
      | inr from ↦
          let none : slice_index p i ≡ 0 = at-beyond p i (omega arith) in
          ap (λ t. t % m) (rest i from ∙ none ∙ omega arith ∙ ap (λ t. c * t) (sym none) ∙ sym (at-multiple c p i))
    ]

-- entries to which those of a raised multiple are added, and nothing past it
pub alike-added : (m c j n : ℕ) (p q made : List ℕ) → j + length q ≤ n → ((i : ℕ) → i < n → slice_index made i % m ≡ (slice_index p i + c * slice_index (raised j q) i) % m) → ((i : ℕ) → n ≤ i → slice_index made i ≡ slice_index p i) → Alike m made (sum_of p (multiple c (raised j q)))
alike-added m c j n p q made short done rest i =
    let whole : slice_index p i + c * slice_index (raised j q) i ≡ slice_index (sum_of p (multiple c (raised j q))) i =
    ap (λ t. slice_index p i + t) (sym (at-multiple c (raised j q) i)) ∙ sym (at-sum p (multiple c (raised j q)) i) in
    elim (cases_lt i n) [
      | inl below ↦ done i below ∙ ap (λ t. t % m) whole
      | inr from ↦
          let none : slice_index (raised j q) i ≡ 0 = at-raised_beyond j q i (omega arith) in
          ap (λ t. t % m) (rest i from ∙ omega arith ∙ ap (λ t. slice_index p i + c * t) (sym none) ∙ whole)
    ]

-- the entries of a product with the variable plus c
pub at-linear : (c : ℕ) (p : List ℕ) (k : ℕ) → slice_index (product_of (c ∷ 1 ∷ []) p) (suc k) ≡ slice_index p k + c * slice_index p (suc k)
at-linear c p k =
    at-sum (multiple c p) (0 ∷ sum_of (multiple 1 p) (0 ∷ [])) (suc k) ∙
    omega (arith, at-multiple c p (suc k), at-sum (multiple 1 p) (0 ∷ []) k, at-multiple 1 p k, past k)
  where
    past : (k : ℕ) → slice_index (0 ∷ []) k ≡ 0
    past zero = refl
    past (suc k) = refl

pub at-linear_first : (c : ℕ) (p : List ℕ) → slice_index (product_of (c ∷ 1 ∷ []) p) 0 ≡ c * slice_index p 0
at-linear_first c p =
    at-sum (multiple c p) (0 ∷ sum_of (multiple 1 p) (0 ∷ [])) 0 ∙ omega (arith, at-multiple c p 0)

-- one residue written
pub residues-set : (m : ℕ) (p : List ℕ) (i v : ℕ) → AreResidues m p → v < m → AreResidues m (set p i v)
residues-set m [] i v residues low k = residues k
residues-set m (a ∷ p) zero v residues low zero = low
residues-set m (a ∷ p) zero v residues low (suc k) = residues (suc k)
residues-set m (a ∷ p) (suc i) v residues low zero = residues 0
residues-set m (a ∷ p) (suc i) v residues low (suc k) = residues-set m p i v (λ j. residues (suc j)) low k

-- a sum that was reduced, and its reduced summands
pub reduced_sum : (m x a b c : ℕ) → x ≡ (a + b * c) % m → x % m ≡ (a + b * c) % m
reduced_sum m x a b c made = ap (λ t. t % m) made ∙ mod-mod (a + b * c) m

-- the first n coefficients
pub residues-take : (m n : ℕ) (p : List ℕ) → AreResidues m p → AreResidues m (take n p)
residues-take m zero p residues k = omega (arith, residues k)
residues-take m (suc n) [] residues k = residues k
residues-take m (suc n) (a ∷ p) residues zero = residues 0
residues-take m (suc n) (a ∷ p) residues (suc k) = residues-take m n p (λ j. residues (suc j)) k

-- a list has as many entries as it has coefficients up to the last
pub HasLength-within : (n : ℕ) (p : List ℕ) → HasLength n p → n ≤ length p
HasLength-within n p trimmed =
    elim (cases_lt (length p) n) [
      | inl short ↦ absurd (trimmed.1 (omega arith) (at-beyond p (n - 1) (omega arith)))
      | inr long ↦ long
    ]

-- no coefficient is past a bound
pub HasLength-below : (m e n : ℕ) (p : List ℕ) → AreResidues m p → IsBelow m e p → HasLength n p → n ≤ e
HasLength-below m e n p residues below trimmed =
    elim (cases_lt e n) [
      | inl high ↦ absurd (trimmed.1 (omega arith) (sym (mod-eq_of_lt (residues (n - 1))) ∙ below (n - 1) (omega arith)))
      | inr low ↦ low
    ]

-- no list has two numbers of coefficients
length-at_most : (n k : ℕ) (p : List ℕ) → HasLength n p → HasLength k p → n ≤ k
length-at_most n k p trimmed other =
    elim (cases_lt k n) [
      | inl longer ↦ absurd (trimmed.1 (omega arith) (other.0 (n - 1) (omega arith)))
      | inr within ↦ within
    ]

pub one-length : (n k : ℕ) (p : List ℕ) → HasLength n p → HasLength k p → n ≡ k
one-length n k p trimmed other = omega (arith, length-at_most n k p trimmed other, length-at_most k n p other trimmed)
