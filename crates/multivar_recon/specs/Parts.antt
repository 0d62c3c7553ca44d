-- Rows of coefficients as terms that are homogeneous of the row's number.
use Rattle.std.specs.Prelude.{◌≡◌, ℕ, ◌+◌, ◌<◌, List}
use Rattle.poly_maps.specs.Mono.{degree}
use Rattle.poly_maps.specs.Polynomial.{coefficient, AreResidues}
use Rattle.newton_interp.specs.GridPoints.{exponents_at, terms_below}
use Rattle.newton_interp.specs.declared.grid.Axis.{Axis}
use Rattle.multivar_recon.specs.Assembly.{at_degree}

-- of the first n coefficients each is 0 that stands at a monomial of degree above k
abbrev pub IsLowRow : List Axis → ℕ → (ℕ → ℕ) → ℕ → Type 0
IsLowRow axes k c n = (i : ℕ) → i < n → k < degree (exponents_at axes i) → c i ≡ 0

-- the new terms are the old ones and those of the first n coefficients, made homogeneous of degree k
pub record AddsPart (axes : List Axis) (k : ℕ) (c : ℕ → ℕ) (n : ℕ) (old new : List (List ℕ × ℕ)) : Type 0 where
  pub sum : (e : List ℕ) → coefficient e new ≡ coefficient e old + coefficient e (at_degree k (terms_below axes c n))
  pub residues : (m : ℕ) → ((i : ℕ) → i < n → c i < m) → AreResidues m old → AreResidues m new
