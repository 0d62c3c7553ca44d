-- What is found is one thing.
use Rattle.std.proofs.Common.{◌≡◌, ℕ, suc, ◌+◌, List, [], ◌∷◌, ◌++◌, length, Some, refl, sym, ◌∙◌, ap, subst, arith}
use Rattle.std.specs.Prelude.{slice_get}
use Rattle.prime_field.specs.declared.Modulus.{Modulus}
use Rattle.prime_field.specs.declared.Modulus.TheVariants.{First, Second}
use Rattle.poly_maps.specs.declared.bound.Bound.{Bound}
use Rattle.good_attempt.specs.Attempts.{Exhausted as none, Good, Taken}
use Rattle.good_attempt.specs.declared.gap.Gap.{Gap}
use Rattle.ray_grid.specs.declared.grid.Grid.{Grid}
use Rattle.output_result.specs.Methods.{IsReport}
use Rattle.output_result.specs.Outputs.{Output, IsPinned}
use Rattle.output_result.specs.Results.{Result}
use Rattle.output_result.specs.Texts.{Report, lines_from, report_text, result_line, results_text}
use Rattle.reconstruction.specs.Functions.{AreReported, AreResults, AreTaken, Exhausted, Findings, Found, Functions, Reconstructs, output_of}
use Rattle.reconstruction.proofs.Sound.{IsSound, Laws}

good_once : (a b : Taken) → Good a ≡ Good b → a ≡ b
good_once a b same = cc

none_once : (g h : List Gap) → none g ≡ none h → g ≡ h
none_once g h same = cc

good_or_none : {C : Type 0} (a : Taken) (g : List Gap) → Good a ≡ none g → C
good_or_none a g same = cc

-- two lists of one length that have the same at each place
same_lists : {A : Type 0} (xs ys : List A) → length xs ≡ length ys → ((k : ℕ) (x y : A) → slice_get xs k ≡ Some x → slice_get ys k ≡ Some y → x ≡ y) → xs ≡ ys
same_lists [] [] many each = refl
same_lists [] (y ∷ ys) many each = cc
same_lists (x ∷ xs) [] many each = cc
same_lists (x ∷ xs) (y ∷ ys) many each = ap (λ z. z ∷ xs) (each 0 x y refl refl) ∙ ap (λ zs. y ∷ zs) (same_lists xs ys (omega (arith, many)) (λ k a b. each (suc k) a b))

module _ (laws : Laws) (job : Functions) (grid : Bound) (sound : IsSound job grid) where
  -- the points of an output's samples pin it
  pub pinned : (taken : Modulus → Taken) (k : ℕ) → IsPinned grid (output_of job taken k)
  pinned taken k = record { covers = sound.covers k; forcing = λ m. sound.forcing m (taken m).attempt }

  -- the attempts taken are the same
  pub taken_once : (t u : Modulus → Taken) → AreTaken job t → AreTaken job u → t ≡ u
  taken_once t u first second =
      let each : (m : Modulus) → t m ≡ u m = λ m. good_once (t m) (u m) (sound.once m (Good (t m)) (Good (u m)) (first m) (second m)) in
      λ i m. each m i

  results_once : (t u : Modulus → Taken) (rs ss : List Result) → AreTaken job t → AreTaken job u → AreResults job t rs → AreResults job u ss → rs ≡ ss
  results_once t u rs ss first second here there =
      let moved = subst (λ (v : Modulus → Taken). AreResults job v ss) (sym (taken_once t u first second)) there in
      same_lists rs ss (here.all ∙ sym there.all) (λ k r s at_r at_s.
      laws.one_result job.coeff grid (output_of job t k) r s sound.narrow (pinned t k) (here.each k r at_r) (moved.each k s at_s))

  pub findings_once : (a b : Findings) → Reconstructs job a → Reconstructs job b → a ≡ b
  findings_once (Exhausted First g) (Exhausted First h) first second = ap (Exhausted First) (none_once g h (sound.once First (none g) (none h) first second))
  findings_once (Exhausted First g) (Exhausted Second h) first second = good_or_none second.0.0 g (sound.once First (Good second.0.0) (none g) second.0.1 first)
  findings_once (Exhausted First g) (Found ss) first second = good_or_none (second.0 First) g (sound.once First (Good (second.0 First)) (none g) (second.1.0 First) first)
  findings_once (Exhausted Second g) (Exhausted First h) first second = good_or_none first.0.0 h (sound.once First (Good first.0.0) (none h) first.0.1 second)
  findings_once (Exhausted Second g) (Exhausted Second h) first second = ap (Exhausted Second) (none_once g h (sound.once Second (none g) (none h) first.1 second.1))
  findings_once (Exhausted Second g) (Found ss) first second = good_or_none (second.0 Second) g (sound.once Second (Good (second.0 Second)) (none g) (second.1.0 Second) first.1)
  findings_once (Found rs) (Exhausted First h) first second = good_or_none (first.0 First) h (sound.once First (Good (first.0 First)) (none h) (first.1.0 First) second)
  findings_once (Found rs) (Exhausted Second h) first second = good_or_none (first.0 Second) h (sound.once Second (Good (first.0 Second)) (none h) (first.1.0 Second) second.1)
  findings_once (Found rs) (Found ss) first second = ap Found (results_once first.0 second.0 rs ss first.1.0 second.1.0 first.1.1 second.1.1)

  -- where both moduli have a good attempt, they are not exhausted
  pub found_where_taken : {C : Type 0} (taken : Modulus → Taken) (m : Modulus) (gaps : List Gap) → AreTaken job taken → Reconstructs job (Exhausted m gaps) → C
  found_where_taken taken First gaps are found = good_or_none (taken First) gaps (sound.once First (Good (taken First)) (none gaps) (are First) found)
  found_where_taken taken Second gaps are found = good_or_none (taken Second) gaps (sound.once Second (Good (taken Second)) (none gaps) (are Second) found.1)

-- lines with reports that read the same
same_lines : (names : List (List ℕ)) (r s : ℕ → Report) (number : ℕ) (results : List Result) → ((k : ℕ) (result : Result) → slice_get results k ≡ Some result → report_text (r (number + k)) result ≡ report_text (s (number + k)) result)
    → lines_from names r number results ≡ lines_from names s number results
same_lines names r s number [] each = refl
same_lines names r s number (result ∷ results) each =
    let whole : number + 0 ≡ number = omega arith in
    let here : report_text (r number) result ≡ report_text (s number) result =
    ap (λ n. report_text (r n) result) (sym whole) ∙ each 0 result refl ∙ ap (λ n. report_text (s n) result) whole in
    ap (λ (tail : List ℕ). (result_line names number result ++ tail) ++ 10 ∷ lines_from names r (number + 1) results) here
    ∙ ap (λ (later : List ℕ). (result_line names number result ++ report_text (s number) result) ++ 10 ∷ later)
    (same_lines names r s (number + 1) results (λ k other at.
    let next : number + suc k ≡ number + 1 + k = omega arith in
    ap (λ n. report_text (r n) other) (sym next) ∙ each (suc k) other at ∙ ap (λ n. report_text (s n) other) next))

-- a report of an output reads one way
abbrev pub OneReport : Type 0
OneReport = (grid : Grid) (attempts : Modulus → ℕ) (o : Output) (result : Result) (r s : Report) → IsReport grid attempts o result r → IsReport grid attempts o result s → report_text r result ≡ report_text s result

pub reports_once : OneReport → (laws : Laws) (job : Functions) (grid : Bound) → IsSound job grid → (r s : ℕ → Report) (results : List Result) → AreReported job (Found results) r → AreReported job (Found results) s
    → results_text job.names r results ≡ results_text job.names s results
reports_once one laws job grid sound r s results first second =
    let same = taken_once laws job grid sound second.0 first.0 second.1.0 first.1.0 in
    let there : (k : ℕ) (result : Result) → slice_get results k ≡ Some result → IsReport job.grid (λ m. (first.0 m).attempt) (output_of job first.0 k) result (s (k + 1)) =
    subst (λ (t : Modulus → Taken). (k : ℕ) (result : Result) → slice_get results k ≡ Some result → IsReport job.grid (λ m. (t m).attempt) (output_of job t k) result (s (k + 1))) same second.1.1 in
    same_lines job.names r s 1 results (λ k result at.
    let number : k + 1 ≡ 1 + k = omega arith in
    ap (λ n. report_text (r n) result) (sym number) ∙ one job.grid (λ m. (first.0 m).attempt) (output_of job first.0 k) result (r (k + 1)) (s (k + 1)) (first.1.1 k result at) (there k result at) ∙ ap (λ n. report_text (s n) result) number)
