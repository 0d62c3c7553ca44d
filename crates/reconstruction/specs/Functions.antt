-- What is asked of a job's outputs as functions, and what is found of them.
use Rattle.std.specs.Prelude.{◌≡◌, ℕ, ◌+◌, ◌<◌, List, length, slice_get, Some}
use Rattle.prime_field.specs.declared.Modulus.{Modulus}
use Rattle.prime_field.specs.declared.Modulus.TheVariants.{First, Second}
use Rattle.poly_maps.specs.declared.bound.Bounds.{Bounds}
use Rattle.poly_maps.specs.Quotient.{RationalPair}
use Rattle.ray_grid.specs.declared.grid.Grid.{Grid}
use Rattle.graph_eval.specs.GraphValue.{Meaning}
use Rattle.good_attempt.specs.Attempts.{IsExhausted, IsFirstGood, Taken, column}
use Rattle.good_attempt.specs.declared.gap.Gap.{Gap}
use Rattle.rational_lift.specs.declared.coeff.Coeff.{Coeff}
use Rattle.output_result.specs.Outputs.{Output, IsQuotient, ReducesWellAt}
use Rattle.output_result.specs.Methods.{IsReport}
use Rattle.output_result.specs.Results.{OutputResult, Result}
use Rattle.output_result.specs.Texts.{Report}

-- what the outputs are asked as functions of: the names of the variables, how many outputs there are, the bounds on each,
-- counted from 0, those on coefficients, the grid that covers them, the points of each attempt over it, and what the main
-- graph means at each modulus
pub record Functions : Type 1 where
  pub names : List (List ℕ)
  pub outputs : ℕ
  pub bounds : ℕ → Bounds
  pub coeff : Coeff
  pub grid : Grid
  pub attempts : ℕ → List (List ℕ)
  pub meaning : Modulus → Meaning

-- what is found: a modulus at which no attempt has a value at each of its points, with the first gap of each; or a result
-- for each output
pub data Findings : Type 0 where
  Exhausted : (modulus : Modulus) (gaps : List Gap) → Findings
  Found : (results : List Result) → Findings

-- at each modulus this is the first attempt whose samples are all defined, with its rows of values
abbrev pub AreTaken : Functions → (Modulus → Taken) → Type 0
AreTaken job taken = (m : Modulus) → IsFirstGood (job.meaning m) job.attempts (taken m)

-- output k, counted from 0: its bounds, and its samples at each modulus at the points of the attempt taken there
abbrev pub output_of : Functions → (Modulus → Taken) → ℕ → Output
output_of job taken k = record {
  bounds = job.bounds k;
  samples = λ m. record { points = job.attempts (taken m).attempt; values = column k (taken m).rows };
}

-- each output has its result
pub record AreResults (job : Functions) (taken : Modulus → Taken) (results : List Result) : Type 0 where
  pub all : length results ≡ job.outputs
  pub each : (k : ℕ) (result : Result) → slice_get results k ≡ Some result → OutputResult job.coeff (output_of job taken k) result

-- This is found: the first modulus is exhausted; or it has a good attempt, and the second is exhausted; or both have one, and
-- each output has its result over the two.
abbrev pub Reconstructs : Functions → Findings → Type 0
Reconstructs job (Exhausted First gaps) = IsExhausted (job.meaning First) job.attempts gaps
Reconstructs job (Exhausted Second gaps) = ((first : Taken) × IsFirstGood (job.meaning First) job.attempts first) × IsExhausted (job.meaning Second) job.attempts gaps
Reconstructs job (Found results) = (taken : Modulus → Taken) × (AreTaken job taken × AreResults job taken results)

-- Over the attempts taken, the reports tell how the least pairs of each output are found; reports are counted from 1. Nothing is
-- told where a modulus is exhausted.
abbrev pub AreReported : Functions → Findings → (ℕ → Report) → Type 0
AreReported job (Exhausted m gaps) reports = Unit {0}
AreReported job (Found results) reports = (taken : Modulus → Taken) × (AreTaken job taken ×
    ((k : ℕ) (result : Result) → slice_get results k ≡ Some result → IsReport job.grid (λ m. (taken m).attempt) (output_of job taken k) result (reports (k + 1))))

-- output k is the quotient F, over these attempts
abbrev pub IsOutput : Functions → (Modulus → Taken) → ℕ → RationalPair → Type 0
IsOutput job taken k F = IsQuotient job.coeff (output_of job taken k) F

-- each output is some quotient that reduces well
abbrev pub AllReduceWell : Functions → (Modulus → Taken) → Type 0
AllReduceWell job taken = (k : ℕ) → k < job.outputs → (F : RationalPair) × (IsOutput job taken k F × ReducesWellAt (output_of job taken k) F)
