-- What a text of results promises.
use Rattle.std.proofs.Common.{◌≡◌, ℕ, zero, suc, ◌^◌, ◌<◌, true, List, [], ◌∷◌, length, Some, refl, sym, ◌∙◌, ap, subst, arith}
use Rattle.std.specs.Prelude.{slice_get, ◌&&◌}
use Rattle.prime_field.specs.Modulus.{value_of}
use Rattle.prime_field.specs.Residue.{IsPrime}
use Rattle.prime_field.specs.declared.Modulus.{Modulus}
use Rattle.poly_maps.specs.Quotient.{RationalPair}
use Rattle.poly_maps.specs.declared.bound.Bound.{Bound}
use Rattle.rational_lift.specs.Lifting.{Lifted}
use Rattle.good_attempt.specs.Attempts.{Taken}
use Rattle.output_result.specs.Outputs.{ReducesWellAt}
use Rattle.output_result.specs.Printing.{AreShown, IsShown}
use Rattle.output_result.specs.Results.{Lifts, Result}
use Rattle.output_result.specs.Texts.{Report, all_found, is_found, results_text}
use Rattle.reconstruction.specs.Functions.{AllReduceWell, AreResults, AreTaken, Found, Functions, IsOutput, Reconstructs, output_of}
use Rattle.reconstruction.specs.Headline.{PrintedTaken, PrintedUnique, QuotientPrinted}
use Rattle.reconstruction.proofs.Once.{pinned, taken_once}
use Rattle.reconstruction.proofs.Sound.{IsSound, Laws}

-- what stands at a place below the length
there : {A : Type 0} (xs : List A) (k : ℕ) → k < length xs → (x : A) × (slice_get xs k ≡ Some x)
there [] k low = absurd (omega (arith, low))
there (x ∷ xs) zero low = (x, refl)
there (x ∷ xs) (suc k) low = there xs k (omega (arith, low))

-- all of the results can be printed where each can
shown_of : (names : List (List ℕ)) (results : List Result) → ((k : ℕ) (r : Result) → slice_get results k ≡ Some r → IsShown names r) → AreShown names results
shown_of names [] each = tt
shown_of names (r ∷ results) each = (each 0 r refl, shown_of names results (λ k s at. each (suc k) s at))

-- all are found where each is
found_of : (results : List Result) → ((k : ℕ) (r : Result) → slice_get results k ≡ Some r → is_found r ≡ true) → all_found results ≡ true
found_of [] each = refl
found_of (r ∷ results) each = ap (λ b. b && all_found results) (each 0 r refl) ∙ found_of results (λ k s at. each (suc k) s at)

module _ (laws : Laws) (job : Functions) (grid : Bound) (sound : IsSound job grid) where
  shown : (taken : Modulus → Taken) (results : List Result) → AreResults job taken results → AreShown job.names results
  shown taken results are = shown_of job.names results (λ k r at. sound.shown k (output_of job taken k) r refl (are.each k r at))

  few : (taken : Modulus → Taken) (results : List Result) → AreResults job taken results → length results < 2 ^ 32
  few taken results are = subst (λ n. n < 2 ^ 32) (sym are.all) sound.few

  -- an output that is a quotient which reduces well has it as its result
  result_at : ((m : Modulus) → IsPrime (value_of m)) → (taken : Modulus → Taken) (results : List Result) → AreResults job taken results → (k : ℕ) (F : RationalPair) (r : Result) → slice_get results k ≡ Some r
      → IsOutput job taken k F → ReducesWellAt (output_of job taken k) F → r ≡ Lifts (Lifted F)
  result_at prime taken results are k F r at is well = laws.quotient_is_found job.coeff grid (output_of job taken k) F r prime sound.narrow (pinned laws job grid sound taken k) is well (are.each k r at)

  pub quotients : ((m : Modulus) → IsPrime (value_of m)) → (reports : ℕ → Report) (results : List Result) → Reconstructs job (Found results) → QuotientPrinted job (results_text job.names reports results)
  quotients prime reports results found taken k F are low is well =
      let same : found.0 ≡ taken = taken_once laws job grid sound found.0 taken found.1.0 are in
      let here : AreResults job taken results = subst (λ (t : Modulus → Taken). AreResults job t results) same found.1.1 in
      let at = there results k (omega (arith, low, here.all)) in
      let result : at.0 ≡ Lifts (Lifted F) = result_at prime taken results here k F at.0 at.1 is well in
      laws.found_is_printed job.names reports results k F sound.names (few taken results here) (shown taken results here) (at.1 ∙ ap Some result)

  pub unique : (reports : ℕ → Report) (results : List Result) → Reconstructs job (Found results) → PrintedUnique job (results_text job.names reports results)
  unique reports results found taken k F are prints m g agrees =
      let same : found.0 ≡ taken = taken_once laws job grid sound found.0 taken found.1.0 are in
      let here : AreResults job taken results = subst (λ (t : Modulus → Taken). AreResults job t results) same found.1.1 in
      let at = laws.printed_is_found job.names reports results k F sound.names (few taken results here) (shown taken results here) prints in
      laws.agreeing_are_cross_equal job.coeff grid (output_of job taken k) F (pinned laws job grid sound taken k) (here.each k (Lifts (Lifted F)) at) m g agrees

  pub attempts : (reports : ℕ → Report) (results : List Result) → Reconstructs job (Found results) → PrintedTaken job (results_text job.names reports results)
  attempts reports results found k F prints = (found.0, found.1.0)

  pub all_well : ((m : Modulus) → IsPrime (value_of m)) → (results : List Result) → Reconstructs job (Found results) → (taken : Modulus → Taken) → AreTaken job taken → AllReduceWell job taken → all_found results ≡ true
  all_well prime results found taken are well =
      let same : found.0 ≡ taken = taken_once laws job grid sound found.0 taken found.1.0 are in
      let here : AreResults job taken results = subst (λ (t : Modulus → Taken). AreResults job t results) same found.1.1 in
      found_of results (λ k r at.
      let quotient = well k (subst (λ n. k < n) here.all (low results k r at)) in
      ap is_found (result_at prime taken results here k quotient.0 r at quotient.1.0 quotient.1.1))
    where
      low : (rs : List Result) (k : ℕ) (r : Result) → slice_get rs k ≡ Some r → k < length rs
      low [] k r at = cc
      low (s ∷ rs) zero r at = omega arith
      low (s ∷ rs) (suc k) r at = let rest = low rs k r at in omega (arith, rest)
