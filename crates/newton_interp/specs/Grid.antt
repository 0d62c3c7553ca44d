-- The polynomial in several variables that has given values on a grid. An axis is the list of its points. The numbers
-- that belong to the combinations of places stand one behind the other, the place on the last axis changing fastest; a
-- function gives the number at each place.
use Rattle.std.specs.Prelude.{◌≡◌, ◌≢◌, ℕ, zero, suc, ◌+◌, ◌*◌, ◌%◌, ◌<◌, max, List, [], ◌∷◌, length, slice_index}
use Rattle.univariate.specs.Univariate.{univariate_value, AreApart}
use Rattle.univariate.specs.Coefficients.{AreResidues}
use Rattle.newton_interp.specs.declared.grid.Axis.{Axis}

-- an axis has a point, the points are residues modulo m, and any two differ by a unit
pub record IsAxis (m : ℕ) (points : List ℕ) : Type 0 where
  pub some : 0 < length points
  pub residues : AreResidues m points
  pub apart : AreApart m (length points) (slice_index points)

abbrev pub AreAxes : ℕ → List (List ℕ) → Type 0
AreAxes m [] = Unit {0}
AreAxes m (points ∷ axes) = IsAxis m points × AreAxes m axes

-- the points of each axis
abbrev pub points_of : List Axis → List (List ℕ)
points_of [] = []
points_of (axis ∷ axes) = axis.values.items ∷ points_of axes

-- the number of combinations of places
abbrev pub grid_size : List (List ℕ) → ℕ
grid_size [] = 1
grid_size (points ∷ axes) = length points * grid_size axes

-- the words of work that an interpolation wants: for n points n * n and 6 * n + 4 more, on the axis that wants the most
abbrev pub grid_work : List (List ℕ) → ℕ
grid_work [] = 0
grid_work (points ∷ axes) = max (length points * length points + 6 * length points + 4) (grid_work axes)

-- f 0, f 1 and so on, n numbers
abbrev pub listed : ℕ → (ℕ → ℕ) → List ℕ
listed zero f = []
listed (suc n) f = f 0 ∷ listed n (λ k. f (suc k))

-- the value at x of the polynomial whose n coefficients stand at the place i and at each `size` places further on
abbrev pub value_along : ℕ → ℕ → (ℕ → ℕ) → ℕ → ℕ → ℕ
value_along n size f x i = univariate_value (listed n (λ k. f (k * size + i))) x

-- modulo m the polynomial with the coefficients f has the values v on the grid: where the first variable is the point j
-- of the first axis, what is left are the coefficients of a polynomial that has the values of block j on the other axes
abbrev pub HasGridValues : ℕ → List (List ℕ) → (ℕ → ℕ) → (ℕ → ℕ) → Type 0
HasGridValues m [] f v = f 0 % m ≡ v 0 % m
HasGridValues m (points ∷ axes) f v =
    (j : ℕ) → j < length points →
    HasGridValues m axes (value_along (length points) (grid_size axes) f (slice_index points j)) (λ i. v (j * grid_size axes + i))

-- modulo m the polynomial is 1 at the point j and 0 at the others of the first n
pub record IsOneAt (m n : ℕ) (f : ℕ → ℕ) (j : ℕ) (p : List ℕ) : Type 0 where
  pub one : univariate_value p (f j) % m ≡ 1 % m
  pub zeros : (k : ℕ) → k < n → k ≢ j → univariate_value p (f k) % m ≡ 0

-- for each of the first j points the polynomial that is 1 there and 0 at the others: row i of n entries has the
-- coefficients at the power i
abbrev pub AreOneAt : ℕ → ℕ → (ℕ → ℕ) → ℕ → List ℕ → Type 0
AreOneAt m n f j basis = (h : ℕ) → h < j → IsOneAt m n f h (listed n (λ i. slice_index basis (i * n + h)))
