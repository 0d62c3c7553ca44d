-- What stands in the words of an interpolation once the first k of n points are in; point i is f i.
use Rattle.std.specs.Prelude.{◌≡◌, ℕ, suc, ◌+◌, ◌%◌, ◌<◌, ◌≤◌, List, slice_index}
use Rattle.univariate.specs.Univariate.{univariate_value}
use Rattle.univariate.specs.Coefficients.{IsBelow, AreResidues}
use Rattle.newton_interp.specs.Interpolation.{from_points, HasValues}

-- modulo m `product` is the product over the first k points, and for each later point `spread` is its value there
pub record IsStage (m n k : ℕ) (f spread : ℕ → ℕ) (product out : List ℕ) : Type 0 where
  pub degree : IsBelow m (suc k) product
  pub leading : slice_index product k % m ≡ 1 % m
  pub values : (x : ℕ) → univariate_value product x % m ≡ from_points m k f x % m
  pub spread_values : (j : ℕ) → k ≤ j → j < n → spread j % m ≡ from_points m k f (f j) % m
  pub out_degree : IsBelow m k out

-- modulo m `out` has the value v i at each of the first k points, and for each later point `missing` is what it lacks
pub record Wants (m n k : ℕ) (f v missing : ℕ → ℕ) (out : List ℕ) : Type 0 where
  pub reached : HasValues m k f v out
  pub wanting : (j : ℕ) → k ≤ j → j < n → (missing j + univariate_value out (f j)) % m ≡ v j % m

-- the words are residues
pub record AreWords (m : ℕ) (spread missing product out : List ℕ) : Type 0 where
  pub spread_residues : AreResidues m spread
  pub missing_residues : AreResidues m missing
  pub product_residues : AreResidues m product
  pub out_residues : AreResidues m out
