-- Tables of coefficients on rays: row k has those at t^k, one for each ray.
use Rattle.std.specs.Prelude.{◌≡◌, ℕ, suc, ◌+◌, ◌-◌, ◌*◌, ◌%◌, ◌<◌, ◌≤◌, List, length, slice_index}
use Rattle.prime_field.specs.Residue.{IsUnit}
use Rattle.newton_interp.specs.Grid.{HasGridValues, listed, grid_size, points_of}
use Rattle.newton_interp.specs.GridPoints.{terms_below}
use Rattle.newton_interp.specs.declared.grid.Axis.{Axis}
use Rattle.thiele_interp.specs.Pairs.{IsLeastPair}
use Rattle.univariate.specs.Coefficients.{AreResidues}
use Rattle.poly_maps.specs.Moved.{moved}
use Rattle.poly_maps.specs.Pair.{WithinBounds}
use Rattle.poly_maps.specs.declared.bound.Bounds.{Bounds}
use Rattle.poly_maps.specs.declared.pair.Pair.{Pair}
use Rattle.poly_maps.specs.Polynomial.{coefficient, total_degree, AreResidues as AreTermResidues, IsPolynomial}
use Rattle.poly_maps.specs.Shifted.{negatives}
use Rattle.multivar_recon.specs.Assembly.{assembled, AreScaled, HaveDegrees}

-- the coefficients on the ray d, in a table with rows of `width` words
abbrev pub column : ℕ → ℕ → List ℕ → ℕ → List ℕ
column rows width table d = listed rows (λ k. slice_index table (k * width + d))

-- row k of a table as the terms of a polynomial, one for each combination of places on the axes
abbrev pub row_terms : List Axis → List ℕ → ℕ → List (List ℕ × ℕ)
row_terms axes table k = terms_below axes (λ i. slice_index table (k * grid_size (points_of axes) + i)) (grid_size (points_of axes))

-- of the first n samples at t = 1, 2 and so on there is a least pair whose denominator is a unit at t = 0
pub record HasStart (m n : ℕ) (v : ℕ → ℕ) (a b : ℕ) : Type 0 where
  pub num : List ℕ
  pub den : List ℕ
  pub least : IsLeastPair m n suc v a b num den
  pub start : IsUnit m (slice_index den 0)

-- such a pair, 1 at t = 0, of residues. Its denominator ends with a unit
pub record IsScaledPair (m n : ℕ) (v : ℕ → ℕ) (a b : ℕ) (num den : List ℕ) : Type 0 where
  pub least : IsLeastPair m n suc v a b num den
  pub one : slice_index den 0 % m ≡ 1 % m
  pub some : 0 < length den
  pub last : IsUnit m (slice_index den (length den - 1))
  pub num_few : length num ≤ suc a
  pub den_few : length den ≤ suc b
  pub num_residues : AreResidues m num
  pub den_residues : AreResidues m den

-- the tables hold such a pair for each of the first `count` rays of `width`
pub record AreRayTables (m a b count width n : ℕ) (vs nums dens degrees : List ℕ) : Type 0 where
  pub scaled : AreScaled m a b count n vs (column (suc a) width nums) (column (suc b) width dens) (slice_index degrees)
  pub num_room : length nums ≡ suc a * width
  pub den_room : length dens ≡ suc b * width
  pub degree_count : length degrees ≡ count
  pub num_residues : AreResidues m nums
  pub den_residues : AreResidues m dens

-- from the ray `count` on a table holds zeros
abbrev pub IsEmptyFrom : ℕ → ℕ → List ℕ → Type 0
IsEmptyFrom count width table = (k d : ℕ) → count ≤ d → d < width → slice_index table (k * width + d) ≡ 0

-- the numbers stand in one column of the table, in its first rows; other words are the old ones
pub record IsColumnWritten (numbers : List ℕ) (d width : ℕ) (old new : List ℕ) : Type 0 where
  pub written : (k : ℕ) → k < length numbers → slice_index new (k * width + d) ≡ slice_index numbers k
  pub behind : (k : ℕ) → length numbers ≤ k → slice_index new (k * width + d) ≡ slice_index old (k * width + d)
  pub others : (k e : ℕ) → e < width → (e ≡ d → ⊥) → slice_index new (k * width + e) ≡ slice_index old (k * width + e)

-- each whole row of the new table has the coefficients of a polynomial whose values on the grid stand in that row of the old
abbrev pub AreRowsInterpolated : ℕ → List Axis → List ℕ → List ℕ → Type 0
AreRowsInterpolated m axes old new =
    (q : ℕ) → suc q * grid_size (points_of axes) ≤ length old →
    HasGridValues m (points_of axes) (λ i. slice_index new (q * grid_size (points_of axes) + i)) (λ i. slice_index old (q * grid_size (points_of axes) + i))

-- the polynomial is assembled from the table's rows once they are interpolated, and moved back by s
pub record IsTablePart (m highest : ℕ) (axes : List Axis) (s table : List ℕ) (p : List (List ℕ × ℕ)) : Type 0 where
  pub rows : List ℕ
  pub interpolated : AreRowsInterpolated m axes table rows
  pub degrees : HaveDegrees m highest (row_terms axes rows)
  pub polynomial : IsPolynomial p
  pub residues : AreTermResidues m p
  pub coefficients : (e : List ℕ) → coefficient e p ≡ coefficient e (moved (negatives m s) (assembled (suc highest) (row_terms axes rows))) % m

-- once the table's rows are interpolated, one has a degree above its number
pub record IsHighTable (m highest : ℕ) (axes : List Axis) (table : List ℕ) : Type 0 where
  pub rows : List ℕ
  pub interpolated : AreRowsInterpolated m axes table rows
  pub high : HaveDegrees m highest (row_terms axes rows) → ⊥

-- the pair is within the bounds, and its denominator's total degree is each of the degrees on the rays
pub record IsAccepted (b : Bounds) (degrees : List ℕ) (f : Pair) : Type 0 where
  pub within : WithinBounds b f
  pub full : (d : ℕ) → d < length degrees → slice_index degrees d ≡ total_degree f.den
