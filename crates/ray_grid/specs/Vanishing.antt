-- Grids of points: in each variable the values of one axis.
use Rattle.std.specs.Prelude.{ℕ, ◌+◌, List, [], ◌∷◌}
use Rattle.univariate.specs.Univariate.{AreApart}

-- the point that has in each variable its axis's value at the place that j has there
abbrev pub grid_point : List (ℕ → ℕ) → List ℕ → List ℕ
grid_point [] j = []
grid_point (axis ∷ axes) [] = []
grid_point (axis ∷ axes) (k ∷ j) = axis k ∷ grid_point axes j

-- there is an axis for each of `tops`, and the differences of its values up to the place `top` are units modulo m
abbrev pub AreAxes : ℕ → List (ℕ → ℕ) → List ℕ → Type 0
AreAxes m [] [] = Unit {0}
AreAxes m [] (top ∷ tops) = ⊥
AreAxes m (axis ∷ axes) [] = ⊥
AreAxes m (axis ∷ axes) (top ∷ tops) = AreApart m (top + 1) axis × AreAxes m axes tops
