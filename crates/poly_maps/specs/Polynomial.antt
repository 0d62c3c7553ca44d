-- Polynomials, seen as lists of terms: a monomial and its coefficient each. A list of any kind stands for the sum of its
-- terms. A polynomial as a finite map is the list whose monomials descend and whose coefficients aren't zero.
use Rattle.std.specs.Prelude.{◌≡◌, ◌≢◌, ℕ, ◌+◌, ◌*◌, ◌%◌, ◌<◌, max, List, [], ◌∷◌, ◌++◌, slice_index, if◌then◌else◌, Option, Some, None}
use Rattle.std.specs.declared.cmp.Ordering.TheVariants.{Less}
use Rattle.poly_maps.specs.Mono.{degree, mono_cmp, is_same, mono_product, mono_value, HasEight}

-- the sum of the coefficients that stand at the monomial
abbrev pub coefficient : List ℕ → List (List ℕ × ℕ) → ℕ
coefficient e [] = 0
coefficient e (t ∷ p) = (if is_same t.0 e then t.1 else 0) + coefficient e p

-- the value at a point
abbrev pub value_at : List (List ℕ × ℕ) → List ℕ → ℕ
value_at [] x = 0
value_at (t ∷ p) x = t.1 * mono_value t.0 x + value_at p x

-- each monomial is below e, whatever the coefficients are
abbrev pub AreLess : {A : Type 0} → List (List ℕ × A) → List ℕ → Type 0
AreLess [] e = Unit {0}
AreLess (t ∷ p) e = (mono_cmp t.0 e ≡ Less) × AreLess p e

-- each monomial is above e
abbrev pub AreAbove : {A : Type 0} → List ℕ → List (List ℕ × A) → Type 0
AreAbove e [] = Unit {0}
AreAbove e (t ∷ p) = (mono_cmp e t.0 ≡ Less) × AreAbove e p

-- monomials descend, whatever the coefficients are
abbrev pub Descends : {A : Type 0} → List (List ℕ × A) → Type 0
Descends [] = Unit {0}
Descends (t ∷ p) = AreLess p t.0 × Descends p

-- monomials descend, and no coefficient is zero
abbrev pub IsNormal : List (List ℕ × ℕ) → Type 0
IsNormal [] = Unit {0}
IsNormal (t ∷ p) = (t.1 ≢ 0) × AreLess p t.0 × IsNormal p

-- each coefficient is a residue modulo m
abbrev pub AreResidues : ℕ → List (List ℕ × ℕ) → Type 0
AreResidues m [] = Unit {0}
AreResidues m (t ∷ p) = (t.1 < m) × AreResidues m p

-- each monomial is in L, whatever the coefficients are
abbrev pub Supported : {A : Type 0} → (List ℕ → Type 0) → List (List ℕ × A) → Type 0
Supported L [] = Unit {0}
Supported L (t ∷ p) = L t.0 × Supported L p

-- a finite map from monomials of eight variables to numbers that aren't zero
abbrev pub IsPolynomial : List (List ℕ × ℕ) → Type 0
IsPolynomial p = IsNormal p × Supported HasEight p

-- the multiple of a polynomial by a number
abbrev pub times : ℕ → List (List ℕ × ℕ) → List (List ℕ × ℕ)
times a [] = []
times a (t ∷ p) = (t.0, a * t.1) ∷ times a p

-- one term times a polynomial, and the product of two: each term of one times each of the other
abbrev pub term_times : List ℕ × ℕ → List (List ℕ × ℕ) → List (List ℕ × ℕ)
term_times t [] = []
term_times t (u ∷ q) = (mono_product t.0 u.0, t.1 * u.1) ∷ term_times t q

abbrev pub product_of : List (List ℕ × ℕ) → List (List ℕ × ℕ) → List (List ℕ × ℕ)
product_of [] q = []
product_of (t ∷ p) q = term_times t q ++ product_of p q

-- each coefficient replaced by its residue modulo m
abbrev pub reduced : ℕ → List (List ℕ × ℕ) → List (List ℕ × ℕ)
reduced m [] = []
reduced m (t ∷ p) = (t.0, t.1 % m) ∷ reduced m p

-- the greatest total degree, and the greatest exponent of the variable i; 0 for zero
abbrev pub total_degree : List (List ℕ × ℕ) → ℕ
total_degree [] = 0
total_degree (t ∷ p) = max (degree t.0) (total_degree p)

abbrev pub degree_in : ℕ → List (List ℕ × ℕ) → ℕ
degree_in i [] = 0
degree_in i (t ∷ p) = max (slice_index t.0 i) (degree_in i p)

-- the first monomial of a list, which is the greatest where they descend
abbrev pub leading : {A : Type 0} → List (List ℕ × A) → Option (List ℕ)
leading [] = None
leading (t ∷ p) = Some t.0
