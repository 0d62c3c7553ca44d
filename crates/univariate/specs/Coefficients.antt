-- Sums, products, degrees and divisibility of polynomials in one variable, over plain numbers: a polynomial is a list of
-- coefficients, the lowest first, and zeros at the end don't matter.
use Rattle.std.specs.Prelude.{◌≡◌, ◌≢◌, ℕ, zero, suc, ◌+◌, ◌-◌, ◌*◌, ◌%◌, ◌<◌, ◌≤◌, List, [], ◌∷◌, slice_index}

-- the sum, coefficient by coefficient
abbrev pub sum_of : List ℕ → List ℕ → List ℕ
sum_of [] q = q
sum_of (a ∷ p) [] = a ∷ p
sum_of (a ∷ p) (b ∷ q) = (a + b) ∷ sum_of p q

-- c times the polynomial
abbrev pub multiple : ℕ → List ℕ → List ℕ
multiple c [] = []
multiple c (a ∷ p) = c * a ∷ multiple c p

-- the polynomial times the power j of the variable
abbrev pub raised : ℕ → List ℕ → List ℕ
raised zero p = p
raised (suc j) p = 0 ∷ raised j p

-- the product: the constant term times q, and above it the rest times q
abbrev pub product_of : List ℕ → List ℕ → List ℕ
product_of [] q = []
product_of (a ∷ p) q = sum_of (multiple a q) (0 ∷ product_of p q)

-- modulo m the degree is below e: no coefficient from place e on
abbrev pub IsBelow : ℕ → ℕ → List ℕ → Type 0
IsBelow m e p = (k : ℕ) → e ≤ k → slice_index p k % m ≡ 0

-- modulo m the same polynomial, coefficient by coefficient
abbrev pub Alike : ℕ → List ℕ → List ℕ → Type 0
Alike m p q = (k : ℕ) → slice_index p k % m ≡ slice_index q k % m

-- each coefficient is a residue modulo m
abbrev pub AreResidues : ℕ → List ℕ → Type 0
AreResidues m p = (k : ℕ) → slice_index p k < m

-- n counts the coefficients up to the last that isn't 0; the zero polynomial has none
abbrev pub HasLength : ℕ → List ℕ → Type 0
HasLength n p = ((k : ℕ) → n ≤ k → slice_index p k ≡ 0) × (0 < n → slice_index p (n - 1) ≢ 0)
