-- What the answers of learning say.
use Rattle.std.specs.Prelude.{◌≡◌, ℕ, ⊤, List, length, slice_get, Some, Result, Ok, Err}
use Rattle.graph_file.specs.declared.graph.Graph.{Graph}
use Rattle.graph_file.specs.declared.job.Need.{Need}
use Rattle.graph_file.specs.Says.{FileForm}
use Rattle.graph_eval.specs.declared.fresh.Fresh.TheVariants as fresh
use Rattle.graph_eval.specs.declared.learned.GraphLearned.{GraphLearned}
use Rattle.graph_eval.specs.declared.outcome.Singular.{Singular}
use Rattle.graph_eval.specs.Evaluated.{IsNeededNode}
use Rattle.graph_eval.specs.Learned.{Fits, FitsGraph, outputs_of, sizes_of}
use Rattle.learn_phase.specs.declared.error.LearnError.{LearnError}
use Rattle.learn_phase.specs.declared.error.LearnError.TheVariants as error
use Rattle.learn_phase.specs.LearnedSets.{AnswersAt, Taught, AllSingular, Broken, Place, LearnsGraph, Learns, NoPoint, BreaksLength, LearnedSets, MeetsNeed}

-- the graph's answer at its learning point q: what was learned of it, a node without a value, or a length that breaks a rule
abbrev pub TellsPoint : Place → Graph → ℕ → Result (Result GraphLearned Singular) LearnError → Type 0
TellsPoint place graph q (Ok (Ok entry)) = (found : GraphLearned) × AnswersAt place graph q (fresh.Learned found) × (entry ≡ record found { point = Some q })
TellsPoint place graph q (Ok (Err singular)) = AnswersAt place graph q (fresh.Singular singular)
TellsPoint place graph q (Err (error.NoLearningPoint number first)) = ⊥
TellsPoint place graph q (Err (error.Length number node)) = (number ≡ place.number) × AnswersAt place graph q (fresh.Length node)
TellsPoint place graph q (Err error.NoMemory) = ⊤

-- learning the graph with this number gave its lesson
abbrev pub TellsGraph : Place → Graph → Result GraphLearned LearnError → Type 0
TellsGraph place graph (Ok entry) = LearnsGraph place graph (Taught entry)
TellsGraph place graph (Err (error.NoLearningPoint number first)) = (number ≡ place.number) × LearnsGraph place graph (AllSingular first)
TellsGraph place graph (Err (error.Length number node)) = (number ≡ place.number) × LearnsGraph place graph (Broken node)
TellsGraph place graph (Err error.NoMemory) = ⊤

-- learning a job's graphs gave their lesson
abbrev pub Tells : Need → FileForm → Result (List GraphLearned) LearnError → Type 0
Tells need form (Ok learned) = LearnedSets need form (Learns learned)
Tells need form (Err (error.NoLearningPoint graph first)) = LearnedSets need form (NoPoint graph first)
Tells need form (Err (error.Length graph node)) = LearnedSets need form (BreaksLength graph node)
Tells need form (Err error.NoMemory) = ⊤

-- each of these nodes is one of the graph, and needed
abbrev pub AreNeeded : Graph → List Singular → Type 0
AreNeeded graph first = (q : ℕ) (singular : Singular) → slice_get first q ≡ Some singular → IsNeededNode graph singular.node

-- whatever the modulus: what was learned at a point fits the graph at this place, and a node that has no value is needed
abbrev pub FitsPoint : Place → Graph → Result (Result GraphLearned Singular) LearnError → Type 0
FitsPoint place graph (Ok (Ok entry)) = FitsGraph (sizes_of place.graphs place.learned) graph entry
FitsPoint place graph (Ok (Err singular)) = IsNeededNode graph singular.node
FitsPoint place graph (Err (error.NoLearningPoint told first)) = ⊥
FitsPoint place graph (Err (error.Length told node)) = told ≡ place.number
FitsPoint place graph (Err error.NoMemory) = ⊤

-- whatever the modulus: what was learned fits the graph, and nodes that have no value are needed
abbrev pub FitsAnswer : Place → Graph → Result GraphLearned LearnError → Type 0
FitsAnswer place graph (Ok entry) = FitsGraph (sizes_of place.graphs place.learned) graph entry
FitsAnswer place graph (Err (error.NoLearningPoint number first)) = (number ≡ place.number) × AreNeeded graph first
FitsAnswer place graph (Err (error.Length number node)) = number ≡ place.number
FitsAnswer place graph (Err error.NoMemory) = ⊤

-- whatever the modulus: what was learned fits the job and its own rule holds, and where nodes have no value they are needed
-- nodes of a graph of the job
abbrev pub FitsJob : Need → FileForm → Result (List GraphLearned) LearnError → Type 0
FitsJob need form (Ok learned) = Fits form.graphs learned × MeetsNeed need form (outputs_of learned)
FitsJob need form (Err (error.NoLearningPoint number first)) = (graph : Graph) × (slice_get form.graphs number ≡ Some graph) × AreNeeded graph first
FitsJob need form (Err (error.Length number node)) = (graph : Graph) × (slice_get form.graphs number ≡ Some graph)
FitsJob need form (Err error.NoMemory) = ⊤
