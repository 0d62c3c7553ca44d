-- What the laws of functions rest on: what holds of every file that asks for them, and the laws of the crates below.
use Rattle.std.proofs.Common.{◌≡◌, ℕ, ◌+◌, ◌*◌, ◌^◌, ◌<◌, List, length, Some}
use Rattle.std.specs.Prelude.{slice_get}
use Rattle.prime_field.specs.Modulus.{value_of}
use Rattle.prime_field.specs.Residue.{IsPrime}
use Rattle.prime_field.specs.declared.Modulus.{Modulus}
use Rattle.poly_maps.specs.Forcing.{IsForcing}
use Rattle.poly_maps.specs.Pair.{CrossEqual}
use Rattle.poly_maps.specs.Quotient.{RationalPair}
use Rattle.poly_maps.specs.Reduced.{residue_pair}
use Rattle.poly_maps.specs.declared.bound.Bound.{Bound}
use Rattle.poly_maps.specs.declared.pair.Pair.{Pair}
use Rattle.ray_grid.specs.Covering.{Covers}
use Rattle.ratfun_text.specs.Printed.{AreVariables}
use Rattle.rational_lift.specs.Joined.{both}
use Rattle.rational_lift.specs.Lifting.{Lifted}
use Rattle.rational_lift.specs.declared.coeff.Coeff.{Coeff}
use Rattle.good_attempt.specs.Attempts.{IsSampling, Sampling}
use Rattle.output_result.specs.Outputs.{Output, AgreesAt, IsPinned, IsQuotient, ReducesWellAt}
use Rattle.output_result.specs.Printing.{AreShown, IsShown, PrintsFunction}
use Rattle.output_result.specs.Results.{Lifts, OutputResult, Result}
use Rattle.output_result.specs.Texts.{Report, results_text}
use Rattle.reconstruction.specs.Functions.{Functions}

-- what is asked for is sound: coefficients are told by their residues, attempts give one answer, their points are forcing for
-- a grid that covers the bounds, and results can be printed
pub record IsSound (job : Functions) (grid : Bound) : Type 0 where
  pub narrow : 2 * (job.coeff.num * job.coeff.den) < both
  pub once : (m : Modulus) (a b : Sampling) → IsSampling (job.meaning m) job.attempts a → IsSampling (job.meaning m) job.attempts b → a ≡ b
  pub covers : (k : ℕ) → Covers grid (job.bounds k)
  pub forcing : (m : Modulus) (r : ℕ) → IsForcing (value_of m) grid (job.attempts r)
  pub names : AreVariables job.names
  pub few : job.outputs < 2 ^ 32
  pub shown : (k : ℕ) (o : Output) (result : Result) → o.bounds ≡ job.bounds k → OutputResult job.coeff o result → IsShown job.names result

-- the laws of the results of one output
pub record Laws : Type 0 where
  pub one_result : (c : Coeff) (grid : Bound) (o : Output) (a b : Result) → 2 * (c.num * c.den) < both → IsPinned grid o → OutputResult c o a → OutputResult c o b → a ≡ b
  pub quotient_is_found : (c : Coeff) (grid : Bound) (o : Output) (F : RationalPair) (found : Result) → ((m : Modulus) → IsPrime (value_of m)) → 2 * (c.num * c.den) < both → IsPinned grid o → IsQuotient c o F → ReducesWellAt o F
      → OutputResult c o found → found ≡ Lifts (Lifted F)
  pub agreeing_are_cross_equal : (c : Coeff) (grid : Bound) (o : Output) (F : RationalPair) → IsPinned grid o → OutputResult c o (Lifts (Lifted F)) → (m : Modulus) (g : Pair) → AgreesAt o m g → CrossEqual (value_of m) g (residue_pair (value_of m) F)
  pub printed_is_found : (names : List (List ℕ)) (reports : ℕ → Report) (results : List Result) (k : ℕ) (F : RationalPair) → AreVariables names → length results < 2 ^ 32 → AreShown names results → PrintsFunction names (results_text names reports results) k (k + 1) F → slice_get results k ≡ Some (Lifts (Lifted F))
  pub found_is_printed : (names : List (List ℕ)) (reports : ℕ → Report) (results : List Result) (k : ℕ) (F : RationalPair) → AreVariables names → length results < 2 ^ 32 → AreShown names results → slice_get results k ≡ Some (Lifts (Lifted F)) → PrintsFunction names (results_text names reports results) k (k + 1) F
