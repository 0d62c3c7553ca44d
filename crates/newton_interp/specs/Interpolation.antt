-- The polynomial that has given values at given points, and the product over the points; point i is f i, its value v i.
use Rattle.std.specs.Prelude.{◌≡◌, ℕ, suc, ◌+◌, ◌-◌, ◌%◌, ◌<◌, List, slice_index}
use Rattle.prime_field.specs.Product.{product_to}
use Rattle.univariate.specs.Univariate.{univariate_value}
use Rattle.univariate.specs.Coefficients.{IsBelow, AreResidues}

-- (x - f 0) * (x - f 1) * .. * (x - f (n - 1)) modulo m, each difference as a sum with m less the point
abbrev pub from_points : ℕ → ℕ → (ℕ → ℕ) → ℕ → ℕ
from_points m n f x = product_to n (λ i. x + (m - f i))

-- modulo m the polynomial has the value v i at each of the first n points
abbrev pub HasValues : ℕ → ℕ → (ℕ → ℕ) → (ℕ → ℕ) → List ℕ → Type 0
HasValues m n f v p = (i : ℕ) → i < n → univariate_value p (f i) % m ≡ v i % m

-- the polynomial of degree below n with these values, its coefficients being residues
pub record IsInterpolant (m n : ℕ) (f v : ℕ → ℕ) (p : List ℕ) : Type 0 where
  pub residues : AreResidues m p
  pub degree : IsBelow m n p
  pub values : HasValues m n f v p

-- the product of the variable less each of the first n points: of degree n, with leading coefficient 1
pub record IsProductOf (m n : ℕ) (f : ℕ → ℕ) (p : List ℕ) : Type 0 where
  pub residues : AreResidues m p
  pub degree : IsBelow m (suc n) p
  pub leading : slice_index p n ≡ 1
  pub values : (x : ℕ) → univariate_value p x % m ≡ from_points m n f x % m
