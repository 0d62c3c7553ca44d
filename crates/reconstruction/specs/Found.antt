-- What the answers of reconstructing stand for.
use Rattle.std.specs.Prelude.{◌≡◌, ℕ, ◌+◌, ◌-◌, ◌<◌, All, List, length, map, slice_get, Option, Some, None}
use Rattle.prime_field.specs.Modulus.{value_of}
use Rattle.prime_field.specs.Residue.{IsPrime}
use Rattle.prime_field.specs.declared.Modulus.{Modulus}
use Rattle.poly_maps.specs.declared.bound.Bounds.{Bounds}
use Rattle.ray_grid.specs.declared.grid.Grid.{Grid}
use Rattle.graph_file.specs.Says.{FileForm, bounds_at, grid_of}
use Rattle.good_attempt.specs.Attempts.{Taken, column}
use Rattle.output_result.specs.Findings.{output_of, result_of}
use Rattle.output_result.specs.Methods.{IsReport, report_of}
use Rattle.output_result.specs.Outputs.{Output}
use Rattle.output_result.specs.Printing.{AreShown, IsShown}
use Rattle.output_result.specs.Results.{OutputResult, Result}
use Rattle.output_result.specs.Texts.{Report}
use Rattle.output_result.specs.declared.finding.Told.{Told}
use Rattle.rational_lift.specs.Parts.{by_modulus}
use Rattle.reconstruction.specs.declared.findings.Findings.{Findings as Answer}
use Rattle.reconstruction.specs.declared.findings.Findings.TheVariants as answer
use Rattle.reconstruction.specs.Functions.{Exhausted, Findings, Found}

-- the result that is told of an output
abbrev pub result_told : Told → Result
result_told told = result_of told.finding

-- what was found
abbrev pub findings_of : Answer → Findings
findings_of (answer.Exhausted modulus gaps) = Exhausted modulus gaps.items
findings_of (answer.Found tolds) = Found (map result_told tolds.items)

-- how the least pairs of an output were found, if it is there
abbrev pub report_at : Option Told → Report
report_at None = None
report_at (Some told) = report_of told.methods

-- and those of each output, counted from 1
abbrev pub reports_in : List Told → ℕ → Report
reports_in tolds number = report_at (slice_get tolds (number - 1))

abbrev pub reports_of : Answer → ℕ → Report
reports_of (answer.Exhausted modulus gaps) = λ number. None
reports_of (answer.Found tolds) = reports_in tolds.items

-- the results can be printed in these names
abbrev pub AreTold : List (List ℕ) → Findings → Type 0
AreTold names (Exhausted modulus gaps) = Unit {0}
AreTold names (Found results) = AreShown names results

-- whatever the moduli are: eight attempts have gaps, or there is a result for each output
abbrev pub FitsFindings : ℕ → Findings → Type 0
FitsFindings outputs (Exhausted modulus gaps) = length gaps ≡ 8
FitsFindings outputs (Found results) = length results ≡ outputs

-- an attempt with values of output k at each of its points, all residues
pub record HasColumn (m points k : ℕ) (taken : Taken) : Type 0 where
  pub known : taken.attempt < 8
  pub count : length taken.rows ≡ points
  pub wide : All (λ row. k < length row) taken.rows
  pub residues : All (λ v. v < m) (column k taken.rows)

-- output k, counted from 0, over the attempts taken at both moduli
abbrev pub found_at : Bounds → Grid → Taken → Taken → ℕ → Output
found_at bounds grid first second k = output_of bounds grid first.attempt (column k first.rows) second.attempt (column k second.rows)

-- what is told of the first so many outputs, over the attempts taken at both moduli
pub record AreFound (form : FileForm) (first second : Taken) (names : List (List ℕ)) (tolds : List Told) (count : ℕ) : Type 0 where
  pub many : length tolds ≡ count
  pub each : (k : ℕ) (told : Told) → slice_get tolds k ≡ Some told → ((m : Modulus) → IsPrime (value_of m)) →
      OutputResult form.coeff (found_at (bounds_at form (k + 1)) (grid_of form) first second k) (result_told told)
  pub reported : (k : ℕ) (told : Told) → slice_get tolds k ≡ Some told → ((m : Modulus) → IsPrime (value_of m)) →
      IsReport (grid_of form) (by_modulus first.attempt second.attempt) (found_at (bounds_at form (k + 1)) (grid_of form) first second k) (result_told told) (report_of told.methods)
  pub shown : (k : ℕ) (told : Told) → slice_get tolds k ≡ Some told → IsShown names (result_told told)
