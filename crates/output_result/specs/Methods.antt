-- How the least pairs of an output are found.
use Rattle.std.specs.Prelude.{◌≡◌, ℕ, Option, Some, None}
use Rattle.prime_field.specs.Modulus.{value_of}
use Rattle.prime_field.specs.declared.Modulus.{Modulus}
use Rattle.ray_grid.specs.declared.grid.Grid.{Grid}
use Rattle.multivar_recon.specs.Rays.{RegularRays}
use Rattle.multivar_recon.specs.declared.by_rays.Method.{Method}
use Rattle.multivar_recon.specs.declared.by_rays.Method.TheVariants.{Rays, Fit}
use Rattle.rational_lift.specs.Parts.{by_modulus}
use Rattle.output_result.specs.Outputs.{Output}
use Rattle.output_result.specs.Results.{Result, NoPair, Lifts}
use Rattle.output_result.specs.Texts.{Report}
use Rattle.output_result.specs.declared.finding.Methods.{Methods}

-- along the rays exactly where these are regular
abbrev pub IsMethod : Type 0 → Method → Type 0
IsMethod regular Rays = regular
IsMethod regular Fit = regular → ⊥

-- the rays of the grid's attempt r are regular, with the output's samples at the modulus
abbrev pub HasRegularRays : Grid → ℕ → Output → Modulus → Type 0
HasRegularRays grid r o m = RegularRays (value_of m) o.bounds grid r (o.samples m).values

-- so each least pair is found, where these attempts are taken at the moduli
abbrev pub AreMethods : Grid → (Modulus → ℕ) → Output → (Modulus → Method) → Type 0
AreMethods grid attempts o methods = (m : Modulus) → IsMethod (HasRegularRays grid (attempts m) o m) (methods m)

-- the report tells so, where both moduli have a least pair, and nothing where one has none
abbrev pub IsReport : Grid → (Modulus → ℕ) → Output → Result → Report → Type 0
IsReport grid attempts o (NoPair m) report = report ≡ None
IsReport grid attempts o (Lifts lift) None = ⊥
IsReport grid attempts o (Lifts lift) (Some methods) = AreMethods grid attempts o methods

-- what is reported of methods
abbrev pub report_of : Option Methods → Report
report_of None = None
report_of (Some methods) = Some (by_modulus methods.first methods.second)
