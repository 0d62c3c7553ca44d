-- Thiele's continued fraction of samples: its inverse differences, its pairs of polynomials, and where it closes. Point i is
-- t i, its sample v i.
use Rattle.std.specs.Prelude.{◌≡◌, ◌≢◌, ℕ, zero, suc, ◌+◌, ◌-◌, ◌*◌, ◌%◌, ◌<◌, List, [], ◌∷◌, slice_index, Option, Some, None}
use Rattle.prime_field.specs.Residue.{IsUnit, inverse}
use Rattle.univariate.specs.Univariate.{univariate_value}
use Rattle.univariate.specs.Coefficients.{sum_of, multiple, product_of, IsBelow, Alike}

abbrev pub or_zero : Option ℕ → ℕ
or_zero None = 0
or_zero (Some b) = b

-- a over b modulo m; 0 where b is no unit
abbrev pub quotient : ℕ → ℕ → ℕ → ℕ
quotient m a b = (a * or_zero (inverse m b)) % m

-- the inverse difference of level k at point j: the sample at level 0; at each further level point j less point k - 1 over
-- what the level before has at j less what it has at k - 1
abbrev pub inverse_difference : ℕ → (ℕ → ℕ) → (ℕ → ℕ) → ℕ → ℕ → ℕ
inverse_difference m t v zero j = v j
inverse_difference m t v (suc k) j = quotient m (t j + (m - t k)) (inverse_difference m t v k j + (m - inverse_difference m t v k k))

-- the coefficients of the fraction: at each level what it has at its own point
abbrev pub coefficient_at : ℕ → (ℕ → ℕ) → (ℕ → ℕ) → ℕ → ℕ
coefficient_at m t v k = inverse_difference m t v k k

-- the polynomials that begin with the first two: each further one is the variable less point k times the one before the
-- last, plus coefficient k + 1 times the last
abbrev pub thiele_part : ℕ → (ℕ → ℕ) → (ℕ → ℕ) → List ℕ → List ℕ → ℕ → List ℕ
thiele_part m t c first second zero = first
thiele_part m t c first second (suc zero) = second
thiele_part m t c first second (suc (suc k)) =
    sum_of (product_of ((m - t k) ∷ 1 ∷ []) (thiele_part m t c first second k)) (multiple (c (suc k)) (thiele_part m t c first second (suc k)))

-- numerator and denominator of level e; those before level 0 are 1 and 0
abbrev pub thiele_num : ℕ → (ℕ → ℕ) → (ℕ → ℕ) → ℕ → List ℕ
thiele_num m t c e = thiele_part m t c (1 ∷ []) (c 0 ∷ []) (suc e)

abbrev pub thiele_den : ℕ → (ℕ → ℕ) → (ℕ → ℕ) → ℕ → List ℕ
thiele_den m t c e = thiele_part m t c [] (1 ∷ []) (suc e)

-- of n points the form closes at level e: there the inverse differences are the same at each later point, and at the levels
-- before each divisor is a unit
pub record ClosesAt (m n : ℕ) (t v : ℕ → ℕ) (e : ℕ) : Type 0 where
  pub within : e < n
  pub units : (i j : ℕ) → i < e → i < j → j < n → IsUnit m (inverse_difference m t v i j + (m - inverse_difference m t v i i))
  pub closed : (j : ℕ) → e < j → j < n → inverse_difference m t v e j ≡ inverse_difference m t v e e

-- the degrees are a and b at most, and the denominator is 0 at none of the n points
pub record FitsPoints (m n : ℕ) (t : ℕ → ℕ) (a b : ℕ) (num den : List ℕ) : Type 0 where
  pub num_degree : IsBelow m (suc a) num
  pub den_degree : IsBelow m (suc b) den
  pub nowhere_zero : (i : ℕ) → i < n → univariate_value den (t i) % m ≢ 0

-- the form closes at level e, and the pair of that level fits
pub record AnswersAt (m n : ℕ) (t v : ℕ → ℕ) (a b e : ℕ) : Type 0 where
  pub closes : ClosesAt m n t v e
  pub fits : FitsPoints m n t a b (thiele_num m t (coefficient_at m t v) e) (thiele_den m t (coefficient_at m t v) e)

-- a pair times the inverse of its denominator's leading coefficient
pub record IsScaled (m : ℕ) (num den made_num made_den : List ℕ) : Type 0 where
  pub degree : ℕ
  pub factor : ℕ
  pub residue : factor < m
  pub below : IsBelow m (suc degree) den
  pub unit : (slice_index den degree * factor) % m ≡ 1
  pub num_scaled : Alike m made_num (multiple factor num)
  pub den_scaled : Alike m made_den (multiple factor den)
