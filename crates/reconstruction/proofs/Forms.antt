-- What a file asks for is sound.
use Rattle.std.proofs.Common.{◌≡◌, ◌≢◌, ℕ, ◌+◌, ◌*◌, ◌-◌, ◌^◌, ◌<◌, ◌≤◌, List, [], ◌∷◌, length, Option, Some, None, refl, sym, subst, arith, lit<}
use Rattle.std.specs.Prelude.{slice_get}
use Rattle.std.proofs.Math.Nat.{mul-le-mul}
use Rattle.prime_field.specs.Modulus.{value_of}
use Rattle.prime_field.specs.declared.Modulus.{Modulus}
use Rattle.prime_field.specs.declared.Modulus.TheVariants.{First, Second}
use Rattle.poly_maps.specs.Forcing.{IsForcing}
use Rattle.ray_grid.specs.Attempt.{attempt_points}
use Rattle.ray_grid.specs.Grid.{IsGrid, bound_of, choices, later_degrees, point_count}
use Rattle.ray_grid.specs.declared.grid.Grid.{Grid}
use Rattle.ray_grid.specs.Covering.{Covers}
use Rattle.rational_lift.specs.Joined.{both}
use Rattle.rational_lift.specs.declared.coeff.Coeff.{Coeff}
use Rattle.ratfun_text.specs.Printed.{AreVariables}
use Rattle.graph_file.specs.Bounded.{HasBounds, inputs_of}
use Rattle.graph_file.specs.File.{IsGoodFile}
use Rattle.graph_file.specs.Says.{FileForm, Says, bounds_at, grid_of}
use Rattle.graph_file.specs.declared.graph.Graph.{Graph}
use Rattle.graph_file.specs.declared.job.Need.{Need}
use Rattle.graph_file.specs.declared.job.Need.TheVariants.{Functions as ForFunctions}
use Rattle.graph_eval.specs.GraphValue.{GraphValue, main_number}
use Rattle.graph_eval.specs.Learned.{outputs_of, sets_of}
use Rattle.graph_eval.specs.declared.learned.GraphLearned.{GraphLearned}
use Rattle.good_attempt.specs.Attempts.{IsSampling, Sampling}
use Rattle.output_result.specs.Outputs.{Output}
use Rattle.output_result.specs.Printing.{IsShown}
use Rattle.output_result.specs.Results.{OutputResult, Result}
use Rattle.reconstruction.specs.Form.{IsAsked, functions_of, variables_of}
use Rattle.reconstruction.proofs.Sound.{IsSound}

-- the laws that it rests on
pub record FormLaws : Type 0 where
  pub one_sampling : (m : ℕ) (graphs : List Graph) (learned : List (List (List ℕ))) (number : ℕ) (attempts : ℕ → List (List ℕ)) (one other : Sampling) → 1 < m
      → IsSampling (GraphValue m graphs learned number) attempts one → IsSampling (GraphValue m graphs learned number) attempts other → one ≡ other
  pub shown : (c : Coeff) (g : Grid) (o : Output) (names : List (List ℕ)) (result : Result) → IsGrid g → Covers (bound_of g) o.bounds → 1 ≤ c.num → 1 ≤ c.den → 2 * (c.num * c.den) < both → length names ≡ g.variables
      → OutputResult c o result → IsShown names result
  pub forcing : (m : Modulus) (g : Grid) (r : ℕ) → IsGrid g → IsForcing (value_of m) (bound_of g) (attempt_points g r)
  pub bounds : (need : Need) (bytes : List ℕ) (f : FileForm) → IsGoodFile need bytes → Says need bytes f → HasBounds f.graphs f.all f.special f.coeff need
  pub covers : (need : Need) (bytes : List ℕ) (f : FileForm) (output : ℕ) → IsGoodFile need bytes → Says need bytes f → f.all ≢ None → Covers (bound_of (grid_of f)) (bounds_at f output)
  pub names : (need : Need) (bytes : List ℕ) (f : FileForm) → IsGoodFile need bytes → Says need bytes f → (graph : Graph) × (slice_get f.graphs (length f.graphs - 1) ≡ Some graph) × AreVariables graph.inputs

above_one : (m : Modulus) → 1 < value_of m
above_one First = lit< tt
above_one Second = lit< tt

choices-some : (each : List ℕ) → 1 ≤ choices each
choices-some [] = omega arith
choices-some (e ∷ each) = mul-le-mul {n₁ = 1} {m₁ = 1} {n₂ = e + 1} {m₂ = choices each} (omega arith) (choices-some each)

-- an attempt has a point
pub points-some : (g : Grid) → 1 ≤ point_count g
points-some g = mul-le-mul {n₁ = 1} {m₁ = 1} {n₂ = g.total + 3} {m₂ = choices (later_degrees g)} (omega arith) (choices-some (later_degrees g))

few_outputs : (points outputs : ℕ) → 1 ≤ points → points * outputs ≤ 1048576 → outputs < 2 ^ 32
few_outputs points outputs some room =
    let least : 1 * outputs ≤ points * outputs = mul-le-mul {n₁ = 1} {m₁ = outputs} {n₂ = points} {m₂ = outputs} some (omega arith) in
    let wide : 1048576 < 2 ^ 32 = lit< tt in
    omega (arith, least, wide)

-- there are as many names as variables
pub many_names : (graph : Option Graph) → length (variables_of graph) ≡ inputs_of graph
many_names None = refl
many_names (Some graph) = refl

pub sound : FormLaws → (bytes : List ℕ) (form : FileForm) (learned : List GraphLearned) → IsAsked bytes form learned → IsSound (functions_of form learned) (bound_of (grid_of form))
sound laws bytes form learned asked =
    let has : HasBounds form.graphs form.all form.special form.coeff ForFunctions = laws.bounds ForFunctions bytes form asked.good asked.says in
    let grid : IsGrid (grid_of form) = has.given.grid in
    let main = laws.names ForFunctions bytes form asked.good asked.says in
    let cover : (k : ℕ) → Covers (bound_of (grid_of form)) (bounds_at form (k + 1)) = λ k. laws.covers ForFunctions bytes form (k + 1) asked.good asked.says (has.there refl) in
    record {
      narrow = has.coefficients.low;
      once = λ m a b first second. laws.one_sampling (value_of m) form.graphs (sets_of learned) (main_number form.graphs) (attempt_points (grid_of form)) a b (above_one m) first second;
      covers = cover;
      forcing = λ m r. laws.forcing m (grid_of form) r grid;
      names = subst (λ (g : Option Graph). AreVariables (variables_of g)) (sym main.1) main.2;
      few = few_outputs (point_count (grid_of form)) (outputs_of learned) (points-some (grid_of form)) asked.room;
      shown = λ k o result same is. laws.shown form.coeff (grid_of form) o (variables_of (slice_get form.graphs (main_number form.graphs))) result grid
          (subst (Covers (bound_of (grid_of form))) (sym same) (cover k)) has.coefficients.num has.coefficients.den has.coefficients.low
          (many_names (slice_get form.graphs (main_number form.graphs))) is;
    }
