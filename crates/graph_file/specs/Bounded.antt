-- What holds of the bounds of every file that is read.
use Rattle.std.specs.Prelude.{◌≡◌, ◌≢◌, ℕ, ◌*◌, ◌-◌, ◌<◌, ◌≤◌, List, length, Option, Some, None, slice_get, slice_index}
use Rattle.poly_maps.specs.Mono.{HasEight}
use Rattle.poly_maps.specs.declared.bound.Bound.{Bound}
use Rattle.poly_maps.specs.declared.bound.Bounds.{Bounds}
use Rattle.rational_lift.specs.Joined.{both}
use Rattle.rational_lift.specs.declared.coeff.Coeff.{Coeff}
use Rattle.ray_grid.specs.Grid.{IsGrid, point_count}
use Rattle.ray_grid.specs.Covering.{HasFew}
use Rattle.graph_file.specs.declared.graph.Graph.{Graph}
use Rattle.graph_file.specs.declared.job.Need.{Need}
use Rattle.graph_file.specs.declared.job.Need.TheVariants.{Functions}
use Rattle.graph_file.specs.declared.job.Special.{Special}
use Rattle.graph_file.specs.Bounding.{bounds_given, grid_with, widest}
use Rattle.graph_file.specs.Sound.{IsPosition}

-- how many variables a graph has
abbrev pub inputs_of : Option Graph → ℕ
inputs_of None = 0
inputs_of (Some graph) = length graph.inputs

-- how many variables the main graph has
abbrev pub main_variables : List Graph → ℕ
main_variables graphs = inputs_of (slice_get graphs (length graphs - 1))

-- a total degree of at most 64, and degrees that are at most the total one, and 0 past the variables
pub record IsBound (variables : ℕ) (bound : Bound) : Type 0 where
  pub places : HasEight bound.each
  pub low : bound.total ≤ 64
  pub each : (i : ℕ) → slice_index bound.each i ≤ bound.total
  pub others : (i : ℕ) → variables ≤ i → slice_index bound.each i ≡ 0

-- numerator and denominator have at most 1024 monomials together
pub record AreBounds (variables : ℕ) (bounds : Bounds) : Type 0 where
  pub num : IsBound variables bounds.num
  pub den : IsBound variables bounds.den
  pub few : HasFew bounds variables

-- a numerator and a denominator of a coefficient are told by the residues at both moduli
pub record IsCoeff (coeff : Coeff) : Type 0 where
  pub num : 1 ≤ coeff.num
  pub den : 1 ≤ coeff.den
  pub low : 2 * (coeff.num * coeff.den) < both

-- the bounds for every output and for single ones, in this many variables: single outputs are distinct, and the grid for
-- all bounds has at most 65536 points
pub record AreGiven (variables : ℕ) (all : Option Bounds) (special : List Special) : Type 0 where
  pub every : (bounds : Bounds) → all ≡ Some bounds → AreBounds variables bounds
  pub outputs : (k : ℕ) (own : Special) → slice_get special k ≡ Some own → IsPosition own.output
  pub own : (k : ℕ) (own : Special) → slice_get special k ≡ Some own → AreBounds variables own.bounds
  pub distinct : (i j : ℕ) (first second : Special) → slice_get special i ≡ Some first → slice_get special j ≡ Some second → first.output ≡ second.output → i ≡ j
  pub grid : IsGrid (grid_with variables (widest (bounds_given all special)))
  pub few : point_count (grid_with variables (widest (bounds_given all special))) ≤ 65536

-- bounds for the outputs of the main graph and for coefficients; those for every output are there where the file is read
-- for functions
pub record HasBounds (graphs : List Graph) (all : Option Bounds) (special : List Special) (coeff : Coeff) (need : Need) : Type 0 where
  pub given : AreGiven (main_variables graphs) all special
  pub coefficients : IsCoeff coeff
  pub there : need ≡ Functions → all ≢ None
