-- What is found of each output, put together.
use Rattle.std.proofs.Common.{◌≡◌, ℕ, zero, suc, ◌+◌, ◌-◌, ◌<◌, All, List, [], ◌∷◌, ◌++◌, length, length-append, map, Some, Result as Answered, Ok, Err, inl, inr, refl, sym, ◌∙◌, ap, subst, arith}
use Rattle.std.specs.Prelude.{◌⊎◌, IfOk, slice_get, slice_index}
use Rattle.std.specs.List.{AllByRecursion}
use Rattle.std.proofs.lemmas.List.Elements.{All-from_recursion, All-get_or, recursion_from_All}
use Rattle.prime_field.specs.Modulus.{value_of}
use Rattle.prime_field.specs.Residue.{IsPrime}
use Rattle.prime_field.specs.declared.Modulus.{Modulus}
use Rattle.prime_field.specs.declared.Modulus.TheVariants.{First, Second}
use Rattle.poly_maps.specs.declared.bound.Bounds.{Bounds}
use Rattle.ray_grid.specs.Attempt.{attempt_points}
use Rattle.ray_grid.specs.declared.grid.Grid.{Grid}
use Rattle.rational_lift.specs.Parts.{by_modulus}
use Rattle.graph_file.specs.Says.{FileForm, bounds_at, grid_of}
use Rattle.graph_eval.specs.Learned.{outputs_of}
use Rattle.graph_eval.specs.declared.learned.GraphLearned.{GraphLearned}
use Rattle.good_attempt.specs.Attempts.{Taken, column}
use Rattle.good_attempt.specs.Tried.{HasResidues}
use Rattle.output_result.specs.Outputs.{Output, Samples}
use Rattle.output_result.specs.Printing.{AreShown, IsShown}
use Rattle.output_result.specs.Results.{OutputResult, Result}
use Rattle.output_result.specs.Methods.{IsReport, report_of}
use Rattle.output_result.specs.Texts.{Report}
use Rattle.output_result.specs.declared.finding.Told.{Told}
use Rattle.reconstruction.specs.Form.{functions_of}
use Rattle.reconstruction.specs.Found.{AreFound, HasColumn, found_at, report_at, reports_in, result_told}
use Rattle.reconstruction.specs.Functions.{AreResults, output_of}

-- what stands at a place of a mapped list is made of what stands there
mapped_at : {A B : Type 0} (f : A → B) (xs : List A) (k : ℕ) (y : B) → slice_get (map f xs) k ≡ Some y → (x : A) × (slice_get xs k ≡ Some x) × (f x ≡ y)
mapped_at f [] k y at = cc
mapped_at f (x ∷ xs) zero y at = (x, refl, (let same : Some (f x) ≡ Some y = at in cc))
mapped_at f (x ∷ xs) (suc k) y at = mapped_at f xs k y at

pub many_mapped : {A B : Type 0} (f : A → B) (xs : List A) → length (map f xs) ≡ length xs
many_mapped f [] = refl
many_mapped f (x ∷ xs) = ap suc (many_mapped f xs)

-- the samples of an output over the attempts taken, modulus by modulus
samples_at : (grid : Grid) (first second : Taken) (k : ℕ) (m : Modulus) → (found_at (record { num = record { total = 0; each = [] }; den = record { total = 0; each = [] } }) grid first second k).samples m
    ≡ record { points = attempt_points grid (by_modulus first second m).attempt; values = column k (by_modulus first second m).rows }
samples_at grid first second k First = refl
samples_at grid first second k Second = refl

same_output : (form : FileForm) (learned : List GraphLearned) (first second : Taken) (k : ℕ) → found_at (bounds_at form (k + 1)) (grid_of form) first second k ≡ output_of (functions_of form learned) (by_modulus first second) k
same_output form learned first second k = ap (λ (s : Modulus → Samples). record { bounds = bounds_at form (k + 1); samples = s }) (λ i m. samples_at (grid_of form) first second k m i)

-- there is a result for each output
pub assembled : (form : FileForm) (learned : List GraphLearned) (first second : Taken) (names : List (List ℕ)) (tolds : List Told) → ((m : Modulus) → IsPrime (value_of m)) → AreFound form first second names tolds (outputs_of learned)
    → AreResults (functions_of form learned) (by_modulus first second) (map result_told tolds)
assembled form learned first second names tolds prime are = record {
  all = many_mapped result_told tolds ∙ are.many;
  each = λ k result at.
      let from = mapped_at result_told tolds k result at in
      subst (OutputResult form.coeff (output_of (functions_of form learned) (by_modulus first second) k)) from.2
      (subst (λ (o : Output). OutputResult form.coeff o (result_told from.0)) (same_output form learned first second k) (are.each k from.0 from.1 prime));
}

-- the attempts taken, modulus by modulus
attempts_at : (first second : Taken) (m : Modulus) → by_modulus first.attempt second.attempt m ≡ (by_modulus first second m).attempt
attempts_at first second First = refl
attempts_at first second Second = refl

-- and how it was found is told of each
pub reported : (form : FileForm) (learned : List GraphLearned) (first second : Taken) (names : List (List ℕ)) (tolds : List Told) (count : ℕ) → ((m : Modulus) → IsPrime (value_of m)) → AreFound form first second names tolds count
    → (k : ℕ) (result : Result) → slice_get (map result_told tolds) k ≡ Some result
    → IsReport (grid_of form) (λ m. (by_modulus first second m).attempt) (output_of (functions_of form learned) (by_modulus first second) k) result (reports_in tolds (k + 1))
reported form learned first second names tolds count prime are k result at =
    let from = mapped_at result_told tolds k result at in
    let place : k + 1 - 1 ≡ k = omega arith in
    let here : reports_in tolds (k + 1) ≡ report_of from.0.methods = ap (λ n. report_at (slice_get tolds n)) place ∙ ap report_at from.1 in
    subst (λ (r : Report). IsReport (grid_of form) (λ m. (by_modulus first second m).attempt) (output_of (functions_of form learned) (by_modulus first second) k) result r) (sym here)
    (subst (λ (s : Result). IsReport (grid_of form) (λ m. (by_modulus first second m).attempt) (output_of (functions_of form learned) (by_modulus first second) k) s (report_of from.0.methods)) from.2
    (subst (λ (o : Output). IsReport (grid_of form) (λ m. (by_modulus first second m).attempt) o (result_told from.0) (report_of from.0.methods)) (same_output form learned first second k)
    (subst (λ (a : Modulus → ℕ). IsReport (grid_of form) a (found_at (bounds_at form (k + 1)) (grid_of form) first second k) (result_told from.0) (report_of from.0.methods)) (λ i m. attempts_at first second m i)
    (are.reported k from.0 from.1 prime))))

-- all of them can be printed
pub all_shown : (names : List (List ℕ)) (tolds : List Told) → ((k : ℕ) (told : Told) → slice_get tolds k ≡ Some told → IsShown names (result_told told)) → AreShown names (map result_told tolds)
all_shown names [] each = tt
all_shown names (told ∷ tolds) each = (each 0 told refl, all_shown names tolds (λ k other at. each (suc k) other at))

-- rows with enough residues have a column
entry_low : (m : ℕ) (row : List ℕ) (k : ℕ) → k < length row → All (λ x. x < m) row → slice_index row k < m
entry_low m row k low all = All-get_or (λ x. x < m) row k 0 low all

columns : (m outputs k : ℕ) (rows : List (List ℕ)) → k < outputs → AllByRecursion (λ row. (length row ≡ outputs) × All (λ x. x < m) row) rows → AllByRecursion (λ row. k < length row) rows × AllByRecursion (λ v. v < m) (column k rows)
columns m outputs k [] low all = (tt, tt)
columns m outputs k (row ∷ rows) low all =
    let rest = columns m outputs k rows low all.1 in
    let wide : k < length row = omega (arith, low, all.0.0) in
    ((wide, rest.0), (entry_low m row k wide all.0.1, rest.1))

pub has_column : (m points outputs k : ℕ) (taken : Taken) → k < outputs → (taken.attempt < 8) × (length taken.rows ≡ points) × HasResidues m outputs taken.rows → HasColumn m points k taken
has_column m points outputs k taken low fits =
    let both = columns m outputs k taken.rows low (recursion_from_All (λ row. (length row ≡ outputs) × All (λ x. x < m) row) taken.rows fits.2) in
    record {
      known = fits.0;
      count = fits.1;
      wide = All-from_recursion (λ row. k < length row) taken.rows both.0;
      residues = All-from_recursion (λ v. v < m) (column k taken.rows) both.1;
    }

-- what is told of an output, over equal bounds, points and values
pub moved_told : {E : Type 0} (P : Bounds → Grid → ℕ → List ℕ → ℕ → List ℕ → Told → Type 0) (b d : Bounds) (g h : Grid) (r1 s1 : ℕ) (v1 w1 : List ℕ) (r2 s2 : ℕ) (v2 w2 : List ℕ) (found : Answered Told E)
    → b ≡ d → g ≡ h → r1 ≡ s1 → v1 ≡ w1 → r2 ≡ s2 → v2 ≡ w2
    → (((m : Modulus) → IsPrime (value_of m)) → IfOk found (P b g r1 v1 r2 v2))
    → IfOk found (λ told. ((m : Modulus) → IsPrime (value_of m)) → P d h s1 w1 s2 w2 told)
moved_told P b d g h r1 s1 v1 w1 r2 s2 v2 w2 (Ok told) bs gs rs vs ss ws is = λ prime.
    subst (λ x. P x h s1 w1 s2 w2 told) bs (subst (λ x. P b x s1 w1 s2 w2 told) gs (subst (λ x. P b g x w1 s2 w2 told) rs
    (subst (λ x. P b g r1 x s2 w2 told) vs (subst (λ x. P b g r1 v1 x w2 told) ss (subst (λ x. P b g r1 v1 r2 x told) ws (is prime))))))
moved_told P b d g h r1 s1 v1 w1 r2 s2 v2 w2 (Err error) bs gs rs vs ss ws is = tt

-- of a list with one more behind it, an earlier one or the last
last_or_earlier : {A : Type 0} (xs : List A) (x y : A) (j : ℕ) → slice_get (xs ++ x ∷ []) j ≡ Some y → (slice_get xs j ≡ Some y) ⊎ ((j ≡ length xs) × (x ≡ y))
last_or_earlier [] x y zero at = inr (refl, (let same : Some x ≡ Some y = at in cc))
last_or_earlier [] x y (suc j) at = cc
last_or_earlier (z ∷ xs) x y zero at = inl at
last_or_earlier (z ∷ xs) x y (suc j) at = elim (last_or_earlier xs x y j at) [
  | inl earlier ↦ inl earlier
  | inr last ↦ inr (ap suc last.0, last.1)
]

-- one more output
pub found_more : (form : FileForm) (first second : Taken) (names : List (List ℕ)) (tolds more : List Told) (told : Told) (k : ℕ) → AreFound form first second names tolds k → more ≡ tolds ++ told ∷ []
    → (((m : Modulus) → IsPrime (value_of m)) → OutputResult form.coeff (found_at (bounds_at form (k + 1)) (grid_of form) first second k) (result_told told))
    → (((m : Modulus) → IsPrime (value_of m)) → IsReport (grid_of form) (by_modulus first.attempt second.attempt) (found_at (bounds_at form (k + 1)) (grid_of form) first second k) (result_told told) (report_of told.methods))
    → IsShown names (result_told told) → AreFound form first second names more (k + 1)
found_more form first second names tolds more told k are joined here report shown = record {
  many = ap length joined ∙ length-append tolds (told ∷ []) ∙ ap (λ n. n + 1) are.many;
  each = λ j other at prime. elim (last_or_earlier tolds told other j (ap (λ xs. slice_get xs j) (sym joined) ∙ at)) [
    | inl earlier ↦ are.each j other earlier prime
    | inr last ↦
        let place : k ≡ j = sym (last.0 ∙ are.many) in
        subst (λ t. OutputResult form.coeff (found_at (bounds_at form (j + 1)) (grid_of form) first second j) (result_told t)) last.1
        (subst (λ n. OutputResult form.coeff (found_at (bounds_at form (n + 1)) (grid_of form) first second n) (result_told told)) place (here prime))
  ];
  reported = λ j other at prime. elim (last_or_earlier tolds told other j (ap (λ xs. slice_get xs j) (sym joined) ∙ at)) [
    | inl earlier ↦ are.reported j other earlier prime
    | inr last ↦
        let place : k ≡ j = sym (last.0 ∙ are.many) in
        subst (λ t. IsReport (grid_of form) (by_modulus first.attempt second.attempt) (found_at (bounds_at form (j + 1)) (grid_of form) first second j) (result_told t) (report_of t.methods)) last.1
        (subst (λ n. IsReport (grid_of form) (by_modulus first.attempt second.attempt) (found_at (bounds_at form (n + 1)) (grid_of form) first second n) (result_told told) (report_of told.methods)) place (report prime))
  ];
  shown = λ j other at. elim (last_or_earlier tolds told other j (ap (λ xs. slice_get xs j) (sym joined) ∙ at)) [
    | inl earlier ↦ are.shown j other earlier
    | inr last ↦ subst (λ t. IsShown names (result_told t)) last.1 shown
  ];
}
