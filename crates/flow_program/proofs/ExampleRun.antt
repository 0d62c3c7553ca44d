-- A run on the file of the example prints its output, which is the variable.
use Rattle.std.proofs.Common.{◌≡◌, ℕ, zero, suc, ◌<◌, false, List, [], ◌∷◌, length, All, Some, None, refl, subst, arith, lit<, lit≤, inr}
use Rattle.std.specs.Prelude.{codes, slice_get, take}
use Rattle.std.specs.Fmt.{digits}
use Rattle.std.specs.List.{AllByRecursion}
use Rattle.std.proofs.lemmas.List.Elements.{recursion_from_All}
use Rattle.std.proofs.lemmas.Option.{none-some, same_Some}
use Rattle.prime_field.specs.Modulus.{value_of}
use Rattle.prime_field.specs.Residue.{IsPrime}
use Rattle.prime_field.specs.declared.Modulus.{Modulus}
use Rattle.prime_field.specs.declared.Modulus.TheVariants.{First, Second}
use Rattle.poly_maps.specs.Bound.{WithinBound}
use Rattle.poly_maps.specs.Quotient.{RationalPair}
use Rattle.rational_lift.specs.Lifting.{Lifted}
use Rattle.rational_lift.specs.declared.coeff.Coeff.{Coeff}
use Rattle.ray_grid.specs.Attempt.{attempt_points}
use Rattle.ray_grid.specs.Grid.{IsGrid}
use Rattle.ray_grid.specs.declared.grid.Grid.{Grid}
use Rattle.graph_file.specs.Bounded.{HasBounds}
use Rattle.graph_file.specs.declared.graph.Graph.{Graph}
use Rattle.graph_file.specs.declared.job.Need.{Need}
use Rattle.graph_file.specs.declared.job.Need.TheVariants.{Functions as ForFunctions}
use Rattle.graph_file.specs.File.{IsGoodFile}
use Rattle.graph_file.specs.Says.{FileForm, Says, bounds_at, grid_of}
use Rattle.graph_eval.specs.declared.learned.GraphLearned.{GraphLearned}
use Rattle.graph_eval.specs.GraphValue.{Meaning, Value}
use Rattle.graph_eval.specs.Learned.{FitsGraph}
use Rattle.learn_phase.specs.LearnedSets.{LearnedSets, Learns, LearnsGraph, Place, Taught}
use Rattle.good_attempt.specs.Attempts.{AreRows, Taken}
use Rattle.output_result.specs.Outputs.{IsQuotient, Output, ReducesWellAt}
use Rattle.output_result.specs.Results.{Lifts, OutputResult, Result}
use Rattle.output_result.specs.Texts.{Report, results_text}
use Rattle.reconstruction.specs.Form.{IsAsked, functions_of}
use Rattle.reconstruction.specs.Functions.{AreResults, AreTaken, Found, Functions, IsOutput, Reconstructs, output_of}
use Rattle.reconstruction.specs.Headline.{Prints, QuotientPrinted}
use Rattle.reconstruction.proofs.Variable.{AreSingle, constant, is_variable, linear, reduces_well, variable}
use Rattle.flow_program.specs.declared.task.Task.TheVariants as task
use Rattle.flow_program.specs.Example.{Exhibits, example_file, example_files, example_text, example_words}
use Rattle.flow_program.specs.Jobs.{IsLearned, success}
use Rattle.flow_program.specs.Reconstructed.{findings_answer, no_reports}
use Rattle.flow_program.specs.Run.{ModuliArePrime, RunAnswer}
use Rattle.flow_program.specs.Words.{Reconstruct}
use Rattle.flow_program.proofs.ExampleFile.{example_form, example_graph, good, says}

-- the laws that it rests on
pub record Laws : Type 0 where
  pub bounds : (need : Need) (bytes : List ℕ) (f : FileForm) → IsGoodFile need bytes → Says need bytes f → HasBounds f.graphs f.all f.special f.coeff need
  pub entries : (g : Grid) (r : ℕ) → IsGrid g → All (λ x. length x ≡ g.variables) (attempt_points g r)
  pub quotient_is_found : (c : Coeff) (o : Output) (F : RationalPair) → ((m : Modulus) → IsPrime (value_of m)) → IsQuotient c o F → ReducesWellAt o F → OutputResult c o (Lifts (Lifted F))
  pub quotients : (bytes : List ℕ) (form : FileForm) (learned : List GraphLearned) (reports : ℕ → Report) (results : List Result) → ((m : Modulus) → IsPrime (value_of m)) → IsAsked bytes form learned
      → Reconstructs (functions_of form learned) (Found results) → QuotientPrinted (functions_of form learned) (results_text (functions_of form learned).names reports results)

-- both moduli are above 1
above_one : (m : Modulus) → 1 < value_of m
above_one First = lit< tt
above_one Second = lit< tt

-- a graph without nodes is learned without a point, and its output is as long as its input
abbrev entry : GraphLearned
entry = record { point = None; output = 1; lengths = []; sets = []; plans = [] }

fits : FitsGraph [] example_graph entry
fits = record {
  many = refl;
  sets = λ n node there. cc;
  plans = record { many = refl; each = λ n node there. cc };
  first = record { within = lit≤ tt; each = λ n node low there. cc };
  all = refl;
  output = refl;
}

abbrev learned : List GraphLearned
learned = entry ∷ []

-- where the k-th graph is learned, the only one being the first
abbrev behind : ℕ → Place
behind k = record { graphs = example_graph ∷ []; learned = take k learned; number = k }

learns_each : (k : ℕ) (graph : Graph) (one : GraphLearned) → slice_get (example_graph ∷ []) k ≡ Some graph → slice_get learned k ≡ Some one → LearnsGraph (behind k) graph (Taught one)
learns_each zero graph one is_graph is_one =
    subst (λ (g : Graph). LearnsGraph (behind 0) g (Taught one)) (same_Some example_graph graph is_graph)
    (subst (λ (e : GraphLearned). LearnsGraph (behind 0) example_graph (Taught e)) (same_Some entry one is_one) (refl, fits))
learns_each (suc k) graph one is_graph is_one = absurd (none-some one is_one)

learns : LearnedSets ForFunctions example_form (Learns learned)
learns = (record { many = refl; each = learns_each }, (lit≤ tt, λ k own there. cc))

-- what the file asks of its output as a function
abbrev job : Functions
job = functions_of example_form learned

abbrev grid : Grid
grid = grid_of example_form

is_learned : IsLearned (task.Reconstruct false) example_file example_form learned
is_learned = record { fits = lit≤ tt; good = good; says = says; learns = learns }

-- the graph gives the list of its inputs
gives_inputs : (m : Modulus) (x : List ℕ) → job.meaning m x (Value x)
gives_inputs m x = record { lists = []; first = record { within = lit≤ tt; each = λ n node low there. cc }; all = refl; output = refl }

-- so points are their own rows
own_rows : (meaning : Meaning) → ((x : List ℕ) → meaning x (Value x)) → (xs : List (List ℕ)) → AreRows meaning xs xs
own_rows meaning gives [] = tt
own_rows meaning gives (x ∷ xs) = (gives x, own_rows meaning gives xs)

-- the first attempt is good at both moduli
abbrev taken : Modulus → Taken
taken m = record { attempt = 0; rows = attempt_points grid 0 }

are_taken : AreTaken job taken
are_taken m = record { within = lit< tt; earlier = λ r low. absurd (omega (arith, low)); rows = own_rows (job.meaning m) (gives_inputs m) (attempt_points grid 0) }

-- points of one entry
single_of : (xs : List (List ℕ)) → AllByRecursion (λ x. length x ≡ 1) xs → AreSingle xs
single_of [] all = tt
single_of (x ∷ xs) all = (all.0, single_of xs all.1)

-- the bounds leave room for the variable over 1
linear_within : WithinBound (bounds_at example_form 1).num linear
linear_within = (lit≤ tt, (lit≤ tt, (lit≤ tt, (lit≤ tt, (lit≤ tt, (lit≤ tt, (lit≤ tt, (lit≤ tt, (lit≤ tt, tt)))))))))

constant_within : WithinBound (bounds_at example_form 1).den constant
constant_within = (lit≤ tt, (lit≤ tt, (lit≤ tt, (lit≤ tt, (lit≤ tt, (lit≤ tt, (lit≤ tt, (lit≤ tt, (lit≤ tt, tt)))))))))

prime : ModuliArePrime → (m : Modulus) → IsPrime (value_of m)
prime are First = are.first
prime are Second = are.second

is_asked : IsAsked example_file example_form learned
is_asked = record { good = good; says = says; room = lit≤ tt }

-- the variable is found
abbrev results : List Result
results = Lifts (Lifted variable) ∷ []

is_text : results_text job.names no_reports results ≡ example_text
unfolding digits
is_text = refl

told : success example_text ≡ findings_answer results_text (Some example_graph) no_reports (Found results)
unfolding digits
told = refl

module _ (laws : Laws) where
  is_grid : IsGrid grid
  is_grid = (laws.bounds ForFunctions example_file example_form good says).given.grid

  singles : AreSingle (attempt_points grid 0)
  singles = single_of (attempt_points grid 0) (recursion_from_All (λ x. length x ≡ 1) (attempt_points grid 0) (laws.entries grid 0 is_grid))

  quotient : IsOutput job taken 0 variable
  quotient = is_variable job.coeff (output_of job taken 0) above_one (lit≤ tt) (lit≤ tt) linear_within constant_within (λ m. singles) (λ m. refl)

  reduces : ReducesWellAt (output_of job taken 0) variable
  reduces m = reduces_well (value_of m) (bounds_at example_form 1) (attempt_points grid 0) (above_one m) singles linear_within constant_within

  module _ (primes : ModuliArePrime) where
    are_results : AreResults job taken results
    are_results = record { all = refl; each = each }
      where
        each : (k : ℕ) (result : Result) → slice_get results k ≡ Some result → OutputResult job.coeff (output_of job taken k) result
        each zero result there =
            subst (λ (r : Result). OutputResult job.coeff (output_of job taken 0) r) (same_Some (Lifts (Lifted variable)) result there)
            (laws.quotient_is_found job.coeff (output_of job taken 0) variable (prime primes) quotient reduces)
        each (suc k) result there = cc

    reconstructs : Reconstructs job (Found results)
    reconstructs = (taken, (are_taken, are_results))

    pub answers : RunAnswer example_words example_files (success example_text)
    answers = inr (record {
      good = good;
      form = example_form;
      says = says;
      right = record {
        lesson = Learns learned;
        learns = learns;
        right = record { findings = Found results; are = reconstructs; reports = no_reports; are_reports = refl; told = told };
      };
    })

    prints : Prints job example_text 0 variable
    prints =
        subst (λ t. Prints job t 0 variable) is_text
        (laws.quotients example_file example_form learned no_reports results (prime primes) is_asked reconstructs taken 0 variable are_taken (lit< tt) quotient reduces)

    pub exhibited : Exhibits example_words example_files
    exhibited = record {
      answer = success example_text;
      right = answers;
      ends = refl;
      wish = Reconstruct (codes "one.flow") 1 false;
      asks = refl;
      functions = tt;
      form = example_form;
      learned = learned;
      is_learned = is_learned;
      taken = taken;
      are_taken = are_taken;
      place = 0;
      there = lit< tt;
      F = variable;
      quotient = quotient;
      reduces = reduces;
      printed = prints;
    }
