-- What `bounds` and `coeff` lines say, and the grid of degrees that they ask for.
use Rattle.std.specs.Prelude.{ℕ, ◌+◌, ◌==◌, min, max, nat_lt, if◌then◌else◌, List, [], ◌∷◌, ◌++◌, length, map, Option, Some, None, option_to_list, slice_get, slice_index, unwrap_or}
use Rattle.std.specs.List.{range_with_len}
use Rattle.poly_maps.specs.declared.bound.Bound.{Bound}
use Rattle.poly_maps.specs.declared.bound.Bounds.{Bounds as BoundsOf}
use Rattle.rational_lift.specs.declared.coeff.Coeff.{Coeff as CoeffOf}
use Rattle.ray_grid.specs.declared.grid.Grid.{Grid}
use Rattle.graph_file.specs.declared.job.Special.{Special}
use Rattle.graph_file.specs.declared.line.Degrees.{Degrees}
use Rattle.graph_file.specs.declared.line.Line.{Line}
use Rattle.graph_file.specs.declared.line.Line.TheVariants.{Bounds, Coeff}
use Rattle.graph_file.specs.declared.line.Which.{Which}
use Rattle.graph_file.specs.declared.line.Which.TheVariants as which
use Rattle.graph_file.specs.Facts.{variables_in}

-- the degree in the variable with this number, counted from 0: the one that is said, but at most the total degree, or
-- else the total degree; 0 past the variables
abbrev pub degree_in : ℕ → Degrees → ℕ → ℕ
degree_in variables degrees i = if nat_lt i variables then min degrees.total (unwrap_or (slice_get degrees.each i) degrees.total) else 0

-- the bound of a polynomial in this many variables
abbrev pub bound_said : ℕ → Degrees → Bound
bound_said variables degrees = record { total = degrees.total; each = map (degree_in variables degrees) (range_with_len 0 8) }

-- the bounds of a numerator and a denominator in this many variables
abbrev pub bounds_said : ℕ → Degrees → Degrees → BoundsOf
bounds_said variables num den = record { num = bound_said variables num; den = bound_said variables den }

-- the bounds for every output, with those of one more line
abbrev pub all_with : Which → BoundsOf → Option BoundsOf → Option BoundsOf
all_with which.All bounds before = Some bounds
all_with (which.Output output) bounds before = before

-- the bounds of single outputs, with those of one more line
abbrev pub special_with : Which → BoundsOf → List Special → List Special
special_with which.All bounds before = before
special_with (which.Output output) bounds before = before ++ (record { output = output; bounds = bounds }) ∷ []

-- the bounds that lines give for every output
abbrev pub all_in : List Line → Option BoundsOf
all_in [] = None
all_in (Bounds outputs num den ∷ before) = all_with outputs (bounds_said (length (variables_in before)) num den) (all_in before)
all_in (_ ∷ before) = all_in before

-- the bounds that they give for single outputs, in the order of the file
abbrev pub special_in : List Line → List Special
special_in [] = []
special_in (Bounds outputs num den ∷ before) = special_with outputs (bounds_said (length (variables_in before)) num den) (special_in before)
special_in (_ ∷ before) = special_in before

-- the bounds that they give for coefficients
abbrev pub coeff_in : List Line → Option CoeffOf
coeff_in [] = None
coeff_in (Coeff num den ∷ before) = Some (record { num = num; den = den })
coeff_in (_ ∷ before) = coeff_in before

-- the bounds for coefficients, which are these where no line gives them
abbrev pub coeff_or : Option CoeffOf → CoeffOf
coeff_or said = unwrap_or said (record { num = 2305843009213693952; den = 2305843009213693952 })

-- all bounds that were given
abbrev pub bounds_given : Option BoundsOf → List Special → List BoundsOf
bounds_given all special = option_to_list all ++ map (λ own. own.bounds) special

-- the greatest of the numbers
abbrev pub greatest_of : List ℕ → ℕ
greatest_of [] = 0
greatest_of (n ∷ ns) = max n (greatest_of ns)

-- the total degrees of numerator and denominator together, and their degrees in one variable
abbrev pub total_of : BoundsOf → ℕ
total_of bounds = bounds.num.total + bounds.den.total

abbrev pub each_of : ℕ → BoundsOf → ℕ
each_of i bounds = slice_index bounds.num.each i + slice_index bounds.den.each i

-- the greatest of these over all bounds
abbrev pub widest : List BoundsOf → Bound
widest all = record { total = greatest_of (map total_of all); each = map (λ i. greatest_of (map (each_of i) all)) (range_with_len 0 8) }

-- the grid with a bound's degrees
abbrev pub grid_with : ℕ → Bound → Grid
grid_with variables bound = record { variables = variables; total = bound.total; each = bound.each }

-- the bounds with this number among those of single outputs, or else the ones for every output
abbrev pub bounds_among : List Special → BoundsOf → ℕ → BoundsOf
bounds_among [] every output = every
bounds_among (own ∷ later) every output = if own.output == output then own.bounds else bounds_among later every output

-- no degrees
abbrev pub no_bound : Bound
no_bound = record { total = 0; each = 0 ∷ 0 ∷ 0 ∷ 0 ∷ 0 ∷ 0 ∷ 0 ∷ 0 ∷ [] }

abbrev pub no_bounds : BoundsOf
no_bounds = record { num = no_bound; den = no_bound }
