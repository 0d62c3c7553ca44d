-- What trying the attempts gave, told of what a file asks.
use Rattle.std.proofs.Common.{◌≡◌, ℕ, ◌*◌, ◌<◌, ◌≤◌, List, length, map, Option, sym, ◌∙◌, ap, subst, arith}
use Rattle.std.specs.Prelude.{slice_get}
use Rattle.std.proofs.Math.Nat.{mul-le-mul}
use Rattle.prime_field.specs.Modulus.{value_of}
use Rattle.prime_field.specs.Residue.{IsPrime}
use Rattle.prime_field.specs.declared.Modulus.{Modulus}
use Rattle.prime_field.specs.declared.Modulus.TheVariants.{First, Second}
use Rattle.ray_grid.specs.Attempt.{attempt_points}
use Rattle.ray_grid.specs.Grid.{point_count}
use Rattle.ray_grid.specs.declared.grid.Grid.{Grid}
use Rattle.rational_lift.specs.Parts.{by_modulus}
use Rattle.graph_file.specs.Says.{FileForm, grid_of}
use Rattle.graph_file.specs.declared.graph.Graph.{Graph}
use Rattle.graph_eval.specs.GraphValue.{GraphValue, main_number}
use Rattle.graph_eval.specs.Learned.{outputs_of, sets_of}
use Rattle.graph_eval.specs.declared.learned.GraphLearned.{GraphLearned}
use Rattle.good_attempt.specs.Attempts.{IsFirstGood, IsSampling, Good, Sampling, Taken}
use Rattle.good_attempt.specs.Tried.{FitsSampling}
use Rattle.output_result.specs.declared.finding.Told.{Told}
use Rattle.reconstruction.specs.Form.{functions_of, variables_of}
use Rattle.reconstruction.specs.Found.{AreFound, HasColumn, reports_in, result_told}
use Rattle.reconstruction.specs.Functions.{AreReported, AreTaken, Found, Reconstructs}
use Rattle.reconstruction.proofs.Assembled.{assembled, has_column, reported}
use Rattle.reconstruction.proofs.Forms.{many_names, points-some}

-- a sampling over the grid of a file, known by another name
pub sampling_moved : (form : FileForm) (learned : List GraphLearned) (m : Modulus) (grid : Grid) (tried s : Sampling) → grid ≡ grid_of form → tried ≡ s
    → IsSampling (GraphValue (value_of m) form.graphs (sets_of learned) (main_number form.graphs)) (attempt_points grid) tried → IsSampling (GraphValue (value_of m) form.graphs (sets_of learned) (main_number form.graphs)) (attempt_points (grid_of form)) s
sampling_moved form learned m grid tried s same is sampling =
    subst (IsSampling (GraphValue (value_of m) form.graphs (sets_of learned) (main_number form.graphs)) (attempt_points (grid_of form))) is
    (subst (λ (g : Grid). IsSampling (GraphValue (value_of m) form.graphs (sets_of learned) (main_number form.graphs)) (attempt_points g) tried) same sampling)

-- a good attempt has a column for each output
pub column_of_good : (m points outputs k : ℕ) (graph : Option Graph) (tried : Sampling) (taken : Taken) → tried ≡ Good taken → k < outputs → FitsSampling m graph points outputs tried → HasColumn m points k taken
column_of_good m points outputs k graph tried taken is low fits = has_column m points outputs k taken low (subst (FitsSampling m graph points outputs) is fits)

pub small_outputs : (g : Grid) (outputs : ℕ) → point_count g * outputs ≤ 1048576 → outputs ≤ 1048576
small_outputs g outputs room =
    let least : 1 * outputs ≤ point_count g * outputs = mul-le-mul {n₁ = 1} {m₁ = outputs} {n₂ = point_count g} {m₂ = outputs} (points-some g) (omega arith) in
    omega (arith, least, room)

taken_at : (form : FileForm) (learned : List GraphLearned) (first second : Taken) → IsFirstGood (GraphValue (value_of First) form.graphs (sets_of learned) (main_number form.graphs)) (attempt_points (grid_of form)) first
    → IsFirstGood (GraphValue (value_of Second) form.graphs (sets_of learned) (main_number form.graphs)) (attempt_points (grid_of form)) second → AreTaken (functions_of form learned) (by_modulus first second)
taken_at form learned first second here there First = here
taken_at form learned first second here there Second = there

pub all_found_over : (form : FileForm) (learned : List GraphLearned) (first second : Taken) (names : List (List ℕ)) (tolds : List Told) (outputs : ℕ) → ((m : Modulus) → IsPrime (value_of m)) → outputs ≡ outputs_of learned
    → IsFirstGood (GraphValue (value_of First) form.graphs (sets_of learned) (main_number form.graphs)) (attempt_points (grid_of form)) first
    → IsFirstGood (GraphValue (value_of Second) form.graphs (sets_of learned) (main_number form.graphs)) (attempt_points (grid_of form)) second
    → AreFound form first second names tolds outputs → Reconstructs (functions_of form learned) (Found (map result_told tolds))
all_found_over form learned first second names tolds outputs prime count here there are =
    (by_modulus first second, (taken_at form learned first second here there, assembled form learned first second names tolds prime (subst (AreFound form first second names tolds) count are)))

pub all_reported_over : (form : FileForm) (learned : List GraphLearned) (first second : Taken) (names : List (List ℕ)) (tolds : List Told) (outputs : ℕ) → ((m : Modulus) → IsPrime (value_of m))
    → IsFirstGood (GraphValue (value_of First) form.graphs (sets_of learned) (main_number form.graphs)) (attempt_points (grid_of form)) first
    → IsFirstGood (GraphValue (value_of Second) form.graphs (sets_of learned) (main_number form.graphs)) (attempt_points (grid_of form)) second
    → AreFound form first second names tolds outputs → AreReported (functions_of form learned) (Found (map result_told tolds)) (reports_in tolds)
all_reported_over form learned first second names tolds outputs prime here there are =
    (by_modulus first second, (taken_at form learned first second here there, reported form learned first second names tolds outputs prime are))

-- the names of the main graph's variables are as many as the grid's
pub names_count : (form : FileForm) (grid : Grid) → grid ≡ grid_of form → length (variables_of (slice_get form.graphs (main_number form.graphs))) ≡ grid.variables
names_count form grid same = many_names (slice_get form.graphs (main_number form.graphs)) ∙ ap (λ (g : Grid). g.variables) (sym same)
