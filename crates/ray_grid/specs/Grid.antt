-- Grids of degrees, and how many points an attempt over one has.
use Rattle.std.specs.Prelude.{◌≡◌, ℕ, ◌+◌, ◌*◌, ◌≤◌, List, [], ◌∷◌, slice_index, slice_range}
use Rattle.poly_maps.specs.declared.bound.Bound.{Bound}
use Rattle.ray_grid.specs.declared.grid.Grid.{Grid}

-- there are 1 to 8 variables, the total degree is at most 128, and each degree is at most the total one, and 0 past the
-- variables
pub record IsGrid (g : Grid) : Type 0 where
  pub some : 1 ≤ g.variables
  pub few : g.variables ≤ 8
  pub low : g.total ≤ 128
  pub each : (i : ℕ) → slice_index g.each i ≤ g.total
  pub others : (i : ℕ) → g.variables ≤ i → slice_index g.each i ≡ 0

-- the grid's degrees as a bound
abbrev pub bound_of : Grid → Bound
bound_of g = record { total = g.total; each = g.each }

-- the degrees in the second variable and the later ones
abbrev pub later_degrees : Grid → List ℕ
later_degrees g = slice_range g.each 1 g.variables

-- how many lists have entries that are at most those of `each`
abbrev pub choices : List ℕ → ℕ
choices [] = 1
choices (e ∷ each) = (e + 1) * choices each

-- how many points an attempt over the grid has
abbrev pub point_count : Grid → ℕ
point_count g = (g.total + 3) * choices (later_degrees g)
