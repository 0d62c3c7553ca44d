-- The learning points of a graph, tried one after the other.
use Rattle.std.proofs.Common.{◌≡◌, ℕ, ◌+◌, ◌<◌, ◌≤◌, true, MatchBool, List, length, take, set, Option, Some, Ok, Err, sym, ap, subst, ◌∙◌, arith}
use Rattle.std.proofs.lemmas.List.{length-take-le}
use Rattle.std.proofs.Math.Seq.{take-length}
use Rattle.std.specs.Prelude.{slice_get}
use Rattle.prime_field.specs.Residue.{IsPrime}
use Rattle.graph_file.specs.declared.graph.Graph.{Graph}
use Rattle.graph_eval.specs.declared.fresh.Fresh.{Fresh}
use Rattle.graph_eval.specs.declared.fresh.Fresh.TheVariants as fresh
use Rattle.graph_eval.specs.declared.outcome.Singular.{Singular}
use Rattle.graph_eval.specs.declared.learned.GraphLearned.{GraphLearned}
use Rattle.graph_eval.specs.Evaluated.{HasInputs, IsNeededNode}
use Rattle.graph_eval.specs.Fresh.{FitsFresh, FitsFreshAt, IsFresh, IsFreshAt}
use Rattle.graph_eval.specs.GraphValue.{meanings}
use Rattle.graph_eval.specs.Learned.{has_solver, sets_of, sizes_of}
use Rattle.graph_eval.proofs.Places.{stands}
use Rattle.learn_phase.specs.declared.error.LearnError.{LearnError}
use Rattle.learn_phase.specs.declared.error.LearnError.TheVariants as error
use Rattle.learn_phase.specs.Answers.{AreNeeded, TellsGraph, TellsPoint}
use Rattle.learn_phase.specs.LearnedSets.{AllSingular, AnswersAt, AnswersFirst, AreSingular, Broken, GraphLesson, LearnsAtPoints, LearnsByRules, LearnsGraph, Place, Taught, learning_modulus}
use Rattle.learn_phase.specs.Points.{learning_point}
use Rattle.learn_phase.proofs.Places.{EachAt, EachAt-more}
use Rattle.learn_phase.proofs.PointLaws.{length_of_point}

-- what was tried of a graph: it has no value at its learning points before the q-th, and the nodes are needed
pub record HasTried (place : Place) (graph : Graph) (q : ℕ) (first : List Singular) : Type 0 where
  pub singular : IsPrime learning_modulus → AreSingular place graph (take q first)
  pub needed : AreNeeded graph (take q first)

-- the graph that stands at a place is one
one_graph : (graphs : List Graph) (number : ℕ) (a b : Graph) → slice_get graphs number ≡ Some a → slice_get graphs number ≡ Some b → a ≡ b
one_graph graphs number a b at_a at_b = let both : Some a ≡ Some b = sym at_a ∙ at_b in cc

-- the point has an entry for each variable of the graph with this number
pub has_inputs : (graphs : List Graph) (number variables q : ℕ) (point : List ℕ) → number < length graphs → ((graph : Graph) → slice_get graphs number ≡ Some graph → variables ≡ length graph.inputs) → point ≡ learning_point variables q
    → HasInputs (slice_get graphs number) point
has_inputs graphs number variables q point below counted same =
    let graph = stands graphs number below in
    subst (λ (g : Option Graph). HasInputs g point) (sym graph.1) (ap length same ∙ length_of_point variables q ∙ counted graph.0 graph.1)

-- what a graph answers at a learning point
pub answers_at : (place : Place) (graph : Graph) (variables q : ℕ) (point : List ℕ) (given answer : Fresh) → slice_get place.graphs place.number ≡ Some graph → variables ≡ length graph.inputs → point ≡ learning_point variables q → given ≡ answer
    → IsFreshAt learning_modulus place.graphs place.learned place.number point given → AnswersAt place graph q answer
answers_at place graph variables q point given answer is counted same told fresh =
    let called = meanings learning_modulus place.graphs (sets_of place.learned) place.number in
    let here = subst (λ (g : Graph). IsFresh learning_modulus called (sizes_of place.graphs place.learned) g point given) (one_graph place.graphs place.number fresh.0 graph fresh.1 is) fresh.2 in
    subst (λ (p : List ℕ). IsFresh learning_modulus called (sizes_of place.graphs place.learned) graph p answer) (same ∙ ap (λ n. learning_point n q) counted) (subst (λ (a : Fresh). IsFresh learning_modulus called (sizes_of place.graphs place.learned) graph point a) told here)

-- a node without a value is needed
pub needed_at : (place : Place) (graph : Graph) (given : Fresh) (singular : Singular) → slice_get place.graphs place.number ≡ Some graph → given ≡ fresh.Singular singular → FitsFreshAt place.graphs place.learned place.number given → IsNeededNode graph singular.node
needed_at place graph given singular is told fits =
    subst (λ (g : Graph). IsNeededNode g singular.node) (one_graph place.graphs place.number fits.0 graph fits.1 is) (subst (λ (a : Fresh). FitsFresh (sizes_of place.graphs place.learned) fits.0 a) told fits.2)

-- one more point without a value
pub HasTried-more : (place : Place) (graph : Graph) (q : ℕ) (first : List Singular) (singular : Singular) → q < length first → HasTried place graph q first
    → (IsPrime learning_modulus → AnswersAt place graph q (fresh.Singular singular)) → IsNeededNode graph singular.node → HasTried place graph (q + 1) (set first q singular)
unfolding EachAt
HasTried-more place graph q first singular below tried here needed = record {
  singular = λ prime. EachAt-more (λ n s. AnswersAt place graph n (fresh.Singular s)) first q singular below (tried.singular prime) (here prime);
  needed = EachAt-more (λ n (s : Singular). IsNeededNode graph s.node) first q singular below tried.needed needed;
}

-- a graph with a solver learns as it does at its points
by_points : (place : Place) (graph : Graph) (lesson : GraphLesson) → has_solver graph ≡ true → LearnsAtPoints place graph lesson → LearnsGraph place graph lesson
by_points place graph lesson solver learns = subst (λ b. MatchBool b (LearnsAtPoints place graph lesson) (LearnsByRules place graph lesson)) (sym solver) learns

answers_first : (place : Place) (graph : Graph) (q : ℕ) (first : List Singular) (answer : Fresh) → q < 8 → length first ≡ 8 → HasTried place graph q first → IsPrime learning_modulus → AnswersAt place graph q answer → AnswersFirst place graph q answer
answers_first place graph q first answer below long tried prime here = record { within = below; first = take q first; many = length-take-le q first (omega (arith, long)); singular = tried.singular prime; here = here }

-- the graph has a value at its learning point q for the first time
pub taught_at : (place : Place) (graph : Graph) (q : ℕ) (first : List Singular) (entry : GraphLearned) → has_solver graph ≡ true → q < 8 → length first ≡ 8 → HasTried place graph q first → IsPrime learning_modulus → TellsPoint place graph q (Ok (Ok entry))
    → LearnsGraph place graph (Taught entry)
taught_at place graph q first entry solver below long tried prime told = by_points place graph (Taught entry) solver (q, told.0, answers_first place graph q first (fresh.Learned told.0) below long tried prime told.1, told.2)

-- learning ends at the learning point q, where a length breaks a rule
pub ended_at : (place : Place) (graph : Graph) (q : ℕ) (first : List Singular) (why : LearnError) → has_solver graph ≡ true → q < 8 → length first ≡ 8 → HasTried place graph q first → IsPrime learning_modulus → TellsPoint place graph q (Err why)
    → TellsGraph place graph (Err why)
ended_at place graph q first (error.NoLearningPoint number singular) solver below long tried prime told = absurd told
ended_at place graph q first (error.Length number node) solver below long tried prime told = (told.0, by_points place graph (Broken node) solver (q, answers_first place graph q first (fresh.Length node) below long tried prime told.1))
ended_at place graph q first error.NoMemory solver below long tried prime told = tt

-- all learning points were tried
all_tried : (first : List Singular) (q : ℕ) → length first ≡ 8 → 8 ≤ q → q ≤ 8 → take q first ≡ first
all_tried first q long lower upper = ap (λ n. take n first) (omega (arith, long)) ∙ take-length first

pub singular_everywhere : (place : Place) (graph : Graph) (q : ℕ) (first : List Singular) → has_solver graph ≡ true → length first ≡ 8 → 8 ≤ q → q ≤ 8 → HasTried place graph q first → IsPrime learning_modulus → LearnsGraph place graph (AllSingular first)
singular_everywhere place graph q first solver long lower upper tried prime =
    by_points place graph (AllSingular first) solver (long, subst (λ (ss : List Singular). AreSingular place graph ss) (all_tried first q long lower upper) (tried.singular prime))

pub needed_everywhere : (place : Place) (graph : Graph) (q : ℕ) (first : List Singular) → length first ≡ 8 → 8 ≤ q → q ≤ 8 → HasTried place graph q first → AreNeeded graph first
needed_everywhere place graph q first long lower upper tried = subst (λ (ss : List Singular). AreNeeded graph ss) (all_tried first q long lower upper) tried.needed
