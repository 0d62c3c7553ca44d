-- What is found from the values at the points of two attempts.
use Rattle.std.specs.Prelude.{ℕ, List}
use Rattle.poly_maps.specs.declared.bound.Bounds.{Bounds}
use Rattle.ray_grid.specs.Attempt.{attempt_points}
use Rattle.ray_grid.specs.declared.grid.Grid.{Grid}
use Rattle.rational_lift.specs.Lifting.{Lifted, Unlike, NoRational}
use Rattle.rational_lift.specs.Parts.{by_modulus}
use Rattle.output_result.specs.Outputs.{Output, Samples}
use Rattle.output_result.specs.Results.{Result, NoPair, Lifts}
use Rattle.output_result.specs.declared.finding.Finding.{Finding}
use Rattle.output_result.specs.declared.finding.Finding.TheVariants.{Found, NoPair as none, Unlike as apart, NoRational as beyond}

-- the values at the points of the grid's attempt r
abbrev pub samples_of : Grid → ℕ → List ℕ → Samples
samples_of grid r values = record { points = attempt_points grid r; values = values }

-- an output with values at the points of one attempt at the first modulus, and of one at the second
abbrev pub output_of : Bounds → Grid → ℕ → List ℕ → ℕ → List ℕ → Output
output_of b grid r1 values1 r2 values2 = record { bounds = b; samples = by_modulus (samples_of grid r1 values1) (samples_of grid r2 values2) }

-- what a finding says
abbrev pub result_of : Finding → Result
result_of (Found F) = Lifts (Lifted F)
result_of (none m) = NoPair m
result_of (apart first second) = Lifts (Unlike first second)
result_of (beyond part e joint) = Lifts (NoRational part e joint)
