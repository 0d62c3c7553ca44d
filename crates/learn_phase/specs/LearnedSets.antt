-- What learning the graphs of a file gives.
use Rattle.std.specs.Prelude.{◌≡◌, ℕ, ◌*◌, ◌<◌, ◌≤◌, ⊤, ◌⊎◌, MatchBool, List, length, take, slice_get, Some}
use Rattle.prime_field.specs.Modulus.{value_of}
use Rattle.prime_field.specs.declared.Modulus.TheVariants.{First}
use Rattle.graph_file.specs.declared.graph.Graph.{Graph}
use Rattle.graph_file.specs.declared.graph.Source.{Source}
use Rattle.graph_file.specs.declared.graph.Source.TheVariants.{Input, Node}
use Rattle.graph_file.specs.declared.job.Need.{Need}
use Rattle.graph_file.specs.declared.job.Need.TheVariants as need
use Rattle.graph_file.specs.declared.job.Special.{Special}
use Rattle.graph_file.specs.Says.{FileForm, grid_of}
use Rattle.ray_grid.specs.Grid.{point_count}
use Rattle.graph_eval.specs.declared.fresh.Fresh.{Fresh}
use Rattle.graph_eval.specs.declared.fresh.Fresh.TheVariants as fresh
use Rattle.graph_eval.specs.declared.learned.GraphLearned.{GraphLearned}
use Rattle.graph_eval.specs.declared.outcome.Singular.{Singular}
use Rattle.graph_eval.specs.Fresh.{IsFresh, IsMeasured}
use Rattle.graph_eval.specs.GraphValue.{main_number, meanings}
use Rattle.graph_eval.specs.Learned.{has_solver, outputs_of, sets_of, sizes_of}
use Rattle.learn_phase.specs.Points.{learning_point}

-- What learning one graph gives: what was learned; at each of its eight learning points the first node, which has no
-- value; or the node whose length breaks a rule.
pub data GraphLesson : Type 0 where
  Taught : (entry : GraphLearned) → GraphLesson
  AllSingular : (first : List Singular) → GraphLesson
  Broken : (node : ℕ) → GraphLesson

-- a graph where it is to be learned: the graphs of its file, what was learned of those before it, and its number
pub record Place : Type 0 where
  pub graphs : List Graph
  pub learned : List GraphLearned
  pub number : ℕ

-- the modulus at which graphs are learned
abbrev pub learning_modulus : ℕ
learning_modulus = value_of First

-- what the graph answers at its learning point q
abbrev pub AnswersAt : Place → Graph → ℕ → Fresh → Type 0
AnswersAt place graph q answer = IsFresh learning_modulus (meanings learning_modulus place.graphs (sets_of place.learned) place.number) (sizes_of place.graphs place.learned) graph (learning_point (length graph.inputs) q) answer

-- the graph has no value at its first learning points, where these nodes are the first that fail
abbrev pub AreSingular : Place → Graph → List Singular → Type 0
AreSingular place graph first = (q : ℕ) (singular : Singular) → slice_get first q ≡ Some singular → AnswersAt place graph q (fresh.Singular singular)

-- the graph has no value at its learning points before the q-th, and this is its answer there
pub record AnswersFirst (place : Place) (graph : Graph) (q : ℕ) (answer : Fresh) : Type 0 where
  pub within : q < 8
  pub first : List Singular
  pub many : length first ≡ q
  pub singular : AreSingular place graph first
  pub here : AnswersAt place graph q answer

-- what a graph with a solver gives: the first learning point decides where it isn't without a value, and there it is learned
-- or a length breaks a rule
abbrev pub LearnsAtPoints : Place → Graph → GraphLesson → Type 0
LearnsAtPoints place graph (Taught entry) = (q : ℕ) × (found : GraphLearned) × AnswersFirst place graph q (fresh.Learned found) × (entry ≡ record found { point = Some q })
LearnsAtPoints place graph (AllSingular first) = (length first ≡ 8) × AreSingular place graph first
LearnsAtPoints place graph (Broken node) = (q : ℕ) × AnswersFirst place graph q (fresh.Length node)

-- what a graph without a solver gives, which is learned by the rules on lengths alone
abbrev pub LearnsByRules : Place → Graph → GraphLesson → Type 0
LearnsByRules place graph (Taught entry) = IsMeasured (sizes_of place.graphs place.learned) graph (fresh.Learned entry)
LearnsByRules place graph (AllSingular first) = ⊥
LearnsByRules place graph (Broken node) = IsMeasured (sizes_of place.graphs place.learned) graph (fresh.Length node)

abbrev pub LearnsGraph : Place → Graph → GraphLesson → Type 0
LearnsGraph place graph lesson = MatchBool (has_solver graph) (LearnsAtPoints place graph lesson) (LearnsByRules place graph lesson)

-- the first so many graphs of a file, in order: each was learned over those before it
pub record FirstLearn (graphs : List Graph) (learned : List GraphLearned) (count : ℕ) : Type 0 where
  pub many : length learned ≡ count
  pub each : (k : ℕ) (graph : Graph) (entry : GraphLearned) → slice_get graphs k ≡ Some graph → slice_get learned k ≡ Some entry → LearnsGraph (record { graphs = graphs; learned = take k learned; number = k }) graph (Taught entry)

-- the graph with this number gives this behind graphs that are all learned
pub record GivesBehind (graphs : List Graph) (number : ℕ) (lesson : GraphLesson) : Type 0 where
  pub learned : List GraphLearned
  pub before : FirstLearn graphs learned number
  pub graph : Graph
  pub is_graph : slice_get graphs number ≡ Some graph
  pub gives : LearnsGraph (record { graphs = graphs; learned = learned; number = number }) graph lesson

-- each output that has bounds of its own is there
abbrev pub AreThere : ℕ → List Special → Type 0
AreThere outputs special = (k : ℕ) (own : Special) → slice_get special k ≡ Some own → own.output ≤ outputs

-- The rule that the job itself has for its output, by what it is read for, what it says, and the length of the output:
-- there are at most 1048576 residues at all points together, which are those of the file or, for functions, those of an attempt.
abbrev pub MeetsNeed : Need → FileForm → ℕ → Type 0
MeetsNeed need.Points form outputs = length form.points * outputs ≤ 1048576
MeetsNeed need.Learning form outputs = ⊤
MeetsNeed need.Functions form outputs = (point_count (grid_of form) * outputs ≤ 1048576) × AreThere outputs form.special

-- the node of a graph's output, 0 where the output is the input
abbrev pub output_node : Source → ℕ
output_node Input = 0
output_node (Node number) = number

-- all graphs are learned, and a rule for the length of the output fails, told at this node of the main graph, which has this
-- number
pub record BreaksRule (rule : ℕ → Type 0) (graphs : List Graph) (number node : ℕ) : Type 0 where
  pub learned : List GraphLearned
  pub all : FirstLearn graphs learned (length graphs)
  pub breaks : rule (outputs_of learned) → ⊥
  pub is_main : number ≡ main_number graphs
  pub graph : Graph
  pub is_graph : slice_get graphs number ≡ Some graph
  pub is_output : node ≡ output_node graph.output

-- What learning the graphs of a file gives: what was learned of each; the first graph that has no value at any of its
-- learning points, with the first node without a value at each; or the first length that breaks a rule, by its graph and
-- node.
pub data Lesson : Type 0 where
  Learns : (learned : List GraphLearned) → Lesson
  NoPoint : (graph : ℕ) (first : List Singular) → Lesson
  BreaksLength : (graph node : ℕ) → Lesson

-- the lesson of graphs, where this is the rule for the length of the output
abbrev pub LearnsUnder : (ℕ → Type 0) → List Graph → Lesson → Type 0
LearnsUnder rule graphs (Learns learned) = FirstLearn graphs learned (length graphs) × rule (outputs_of learned)
LearnsUnder rule graphs (NoPoint graph first) = GivesBehind graphs graph (AllSingular first)
LearnsUnder rule graphs (BreaksLength graph node) = GivesBehind graphs graph (Broken node) ⊎ BreaksRule rule graphs graph node

-- the lesson of a file that is read for this and says this
abbrev pub LearnedSets : Need → FileForm → Lesson → Type 0
LearnedSets need form lesson = LearnsUnder (MeetsNeed need form) form.graphs lesson
