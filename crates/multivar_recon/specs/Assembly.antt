-- The four conditions under which rays are regular: the least pairs on the rays, scaled; polynomials in the directions that
-- have their coefficients; the pair assembled from these; and its degrees.
use Rattle.std.specs.Prelude.{◌≡◌, ℕ, zero, suc, ◌+◌, ◌-◌, ◌*◌, ◌%◌, ◌<◌, ◌≤◌, List, [], ◌∷◌, ◌++◌, length, slice_index, slice_index_or}
use Rattle.prime_field.specs.Residue.{IsUnit}
use Rattle.univariate.specs.Coefficients.{IsBelow as IsLowerThan}
use Rattle.poly_maps.specs.Mono.{degree, HasEight, IsBelow}
use Rattle.poly_maps.specs.Moved.{moved}
use Rattle.poly_maps.specs.Pair.{WithinBounds}
use Rattle.poly_maps.specs.Polynomial.{coefficient, value_at, total_degree, Supported}
use Rattle.poly_maps.specs.Shifted.{negatives}
use Rattle.poly_maps.specs.declared.bound.Bounds.{Bounds}
use Rattle.poly_maps.specs.declared.pair.Pair.{Pair}
use Rattle.ray_grid.specs.declared.grid.Grid.{Grid}
use Rattle.thiele_interp.specs.Pairs.{IsLeastPair as IsLeastInOne}
use Rattle.multivar_recon.specs.Least.{IsPairModulo}

-- ---- terms in the directions

-- each direction is 1 in the first variable
abbrev pub BeginWithOne : List (List ℕ) → Type 0
BeginWithOne gs = (d : ℕ) → d < length gs → (g : List ℕ) × (slice_index_or gs d [] ≡ 1 ∷ g)

-- a monomial in the variables past the first, with exponents that are at most the grid's
pub record IsDirectional (grid : Grid) (e : List ℕ) : Type 0 where
  pub eight : HasEight e
  pub first : slice_index e 0 ≡ 0
  pub each : IsBelow e grid.each

-- modulo m a polynomial in the monomials L is pinned by its values at the directions
abbrev pub ArePinned : ℕ → (List ℕ → Type 0) → List (List ℕ) → Type 0
ArePinned m L gs = (p q : List (List ℕ × ℕ)) → Supported L p → Supported L q →
    ((d : ℕ) → d < length gs → value_at p (slice_index_or gs d []) % m ≡ value_at q (slice_index_or gs d []) % m) →
    (e : List ℕ) → coefficient e p % m ≡ coefficient e q % m

-- the monomial without the first variable
abbrev pub headless : List ℕ → List ℕ
headless [] = []
headless (j ∷ e) = 0 ∷ e

-- the monomial with that exponent in the first variable that makes its degree k
abbrev pub filled : ℕ → List ℕ → List ℕ
filled k [] = []
filled k (j ∷ e) = (k - degree e) ∷ e

-- the terms made homogeneous of degree k
abbrev pub at_degree : ℕ → List (List ℕ × ℕ) → List (List ℕ × ℕ)
at_degree k [] = []
at_degree k (t ∷ p) = (filled k t.0, t.1) ∷ at_degree k p

-- the parts 0, 1 and so on up to n - 1, each made homogeneous of its number
abbrev pub assembled : ℕ → (ℕ → List (List ℕ × ℕ)) → List (List ℕ × ℕ)
assembled zero parts = []
assembled (suc n) parts = assembled n parts ++ at_degree n (parts n)

-- ---- the conditions

-- on the ray with number d, the lists nums d and dens d are a least pair of the samples. Its denominator is 1 at t = 0 and
-- has the degree `degrees d`, with a unit there
pub record AreScaled (m a b count n : ℕ) (vs : List ℕ) (nums dens : ℕ → List ℕ) (degrees : ℕ → ℕ) : Type 0 where
  pub least : (d : ℕ) → d < count → IsLeastInOne m n suc (λ i. slice_index vs (d * n + i)) a b (nums d) (dens d)
  pub one : (d : ℕ) → d < count → slice_index (dens d) 0 % m ≡ 1 % m
  pub low : (d : ℕ) → d < count → IsLowerThan m (suc (degrees d)) (dens d)
  pub top : (d : ℕ) → d < count → IsUnit m (slice_index (dens d) (degrees d))

-- for each k up to the highest, the values of the part k at the directions are the coefficients at t^k in the lists
pub record AreInterpolated (m : ℕ) (L : List ℕ → Type 0) (gs : List (List ℕ)) (highest : ℕ) (lists : ℕ → List ℕ) (parts : ℕ → List (List ℕ × ℕ)) : Type 0 where
  pub inside : (k : ℕ) → k ≤ highest → Supported L (parts k)
  pub values : (k d : ℕ) → k ≤ highest → d < length gs → value_at (parts k) (slice_index_or gs d []) % m ≡ slice_index (lists d) k % m

-- modulo m each part has its number as total degree at most
abbrev pub HaveDegrees : ℕ → ℕ → (ℕ → List (List ℕ × ℕ)) → Type 0
HaveDegrees m highest parts = (k : ℕ) → k ≤ highest → (e : List ℕ) → k < degree e → coefficient e (parts k) % m ≡ 0

-- the pair is assembled from the parts and moved back by s
pub record AreAssembled (m : ℕ) (s : List ℕ) (num_highest den_highest : ℕ) (num_parts den_parts : ℕ → List (List ℕ × ℕ)) (f : Pair) : Type 0 where
  pub pair : IsPairModulo m f
  pub num : (e : List ℕ) → coefficient e f.num ≡ coefficient e (moved (negatives m s) (assembled (suc num_highest) num_parts)) % m
  pub den : (e : List ℕ) → coefficient e f.den ≡ coefficient e (moved (negatives m s) (assembled (suc den_highest) den_parts)) % m

-- what was made of the samples on rays: scaled least pairs, polynomials that have their coefficients, and the pair assembled
pub record AreMade (m : ℕ) (b : Bounds) (L : List ℕ → Type 0) (s : List ℕ) (gs : List (List ℕ)) (n : ℕ) (vs : List ℕ)
    (nums dens : ℕ → List ℕ) (degrees : ℕ → ℕ) (num_parts den_parts : ℕ → List (List ℕ × ℕ)) (f : Pair) : Type 0 where
  pub scaled : AreScaled m b.num.total b.den.total (length gs) n vs nums dens degrees
  pub num_values : AreInterpolated m L gs b.num.total nums num_parts
  pub den_values : AreInterpolated m L gs b.den.total dens den_parts
  pub assembled : AreAssembled m s b.num.total b.den.total num_parts den_parts f

-- and what is asked of it: the degrees of the polynomials, the bounds of the pair, and its denominator's degree on each ray
pub record PassTests (m : ℕ) (b : Bounds) (count : ℕ) (degrees : ℕ → ℕ) (num_parts den_parts : ℕ → List (List ℕ × ℕ)) (f : Pair) : Type 0 where
  pub num_degrees : HaveDegrees m b.num.total num_parts
  pub den_degrees : HaveDegrees m b.den.total den_parts
  pub within : WithinBounds b f
  pub full : (d : ℕ) → d < count → degrees d ≡ total_degree f.den
