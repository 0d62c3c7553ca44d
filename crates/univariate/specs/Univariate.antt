-- Polynomials in one variable, over plain numbers: a list of coefficients, the lowest first.
use Rattle.std.specs.Prelude.{◌≡◌, ◌≢◌, ℕ, ◌+◌, ◌-◌, ◌*◌, ◌%◌, ◌<◌, List, [], ◌∷◌, length, slice_index}

-- the value at x
abbrev pub univariate_value : List ℕ → ℕ → ℕ
univariate_value [] x = 0
univariate_value (a ∷ p) x = a + x * univariate_value p x

-- modulo m each coefficient is 0
abbrev pub AllVanish : ℕ → List ℕ → Type 0
AllVanish m p = (k : ℕ) → slice_index p k % m ≡ 0

-- y less x is a unit modulo m: b is its inverse
abbrev pub IsApart : ℕ → ℕ → ℕ → Type 0
IsApart m x y = (b : ℕ) × ((y * b) % m ≡ (x * b + 1) % m)

-- of the first n values of f, each later one less each earlier one is a unit
abbrev pub AreApart : ℕ → ℕ → (ℕ → ℕ) → Type 0
AreApart m n f = (i j : ℕ) → i < j → j < n → IsApart m (f i) (f j)

-- the last coefficient, if there is one, isn't 0
abbrev pub IsTrimmed : List ℕ → Type 0
IsTrimmed p = 0 < length p → slice_index p (length p - 1) ≢ 0
