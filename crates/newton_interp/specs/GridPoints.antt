-- Grids in the space of eight variables: the monomials and the points that belong to the combinations of places.
use Rattle.std.specs.Prelude.{◌≡◌, ◌≢◌, ℕ, zero, suc, ◌-◌, ◌/◌, ◌%◌, ◌<◌, ◌≤◌, List, [], ◌∷◌, ◌++◌, length, replicate, set, slice_index}
use Rattle.newton_interp.specs.Grid.{points_of, grid_size}
use Rattle.newton_interp.specs.declared.grid.Axis.{Axis}

-- the axis has a variable from 1 to 8 and 1 to 256 points
pub record IsNamed (axis : Axis) : Type 0 where
  pub first : 1 ≤ axis.variable
  pub last : axis.variable ≤ 8
  pub some : 1 ≤ length axis.values.items
  pub few : length axis.values.items ≤ 256

-- no axis has the variable
abbrev pub IsAbsent : ℕ → List Axis → Type 0
IsAbsent variable [] = Unit {0}
IsAbsent variable (axis ∷ axes) = (axis.variable ≢ variable) × IsAbsent variable axes

-- each axis has a variable of its own
abbrev pub AreNamed : List Axis → Type 0
AreNamed [] = Unit {0}
AreNamed (axis ∷ axes) = IsNamed axis × IsAbsent axis.variable axes × AreNamed axes

-- the exponents that are the places on the axes of combination i; those of other variables are 0
abbrev pub exponents_at : List Axis → ℕ → List ℕ
exponents_at [] i = replicate 8 0
exponents_at (axis ∷ axes) i =
    set (exponents_at axes (i % grid_size (points_of axes))) (axis.variable - 1) (i / grid_size (points_of axes))

-- the point that has in each axis's variable the axis's point at its place in combination i, and 0 in the others
abbrev pub grid_point : List Axis → ℕ → List ℕ
grid_point [] i = replicate 8 0
grid_point (axis ∷ axes) i =
    set (grid_point axes (i % grid_size (points_of axes))) (axis.variable - 1) (slice_index axis.values.items (i / grid_size (points_of axes)))

-- in each axis's variable the exponent is below the number of the axis's points
abbrev pub AreBelow : List Axis → List ℕ → Type 0
AreBelow [] e = Unit {0}
AreBelow (axis ∷ axes) e = (slice_index e (axis.variable - 1) < length axis.values.items) × AreBelow axes e

-- and it is 0 in the other variables
pub record IsOnAxes (axes : List Axis) (e : List ℕ) : Type 0 where
  pub below : AreBelow axes e
  pub others : (k : ℕ) → IsAbsent (suc k) axes → slice_index e k ≡ 0

-- the terms of the first n combinations, combination k with the coefficient c k
abbrev pub terms_below : List Axis → (ℕ → ℕ) → ℕ → List (List ℕ × ℕ)
terms_below axes c zero = []
terms_below axes c (suc n) = terms_below axes c n ++ (exponents_at axes n, c n) ∷ []
