-- What learning a graph answers: by its length rules alone, or at a point.
use Rattle.std.specs.Prelude.{◌≡◌, ℕ, ◌+◌, ◌*◌, ◌<◌, ◌==◌, IsTrue, MatchBool, List, [], length, take, slice_get, slice_index_or, Some, None, true, false}
use Rattle.elim_core.specs.Solved.{IsOwnSet}
use Rattle.elim_core.specs.Sparse.{entries_of, rows_with}
use Rattle.prime_field.specs.Residue.{IsPrime}
use Rattle.graph_file.specs.declared.graph.Graph.{Graph}
use Rattle.graph_file.specs.declared.graph.Node.{Node}
use Rattle.graph_file.specs.declared.graph.NodeKind.{NodeKind}
use Rattle.graph_file.specs.declared.graph.NodeKind.TheVariants.{Dense, Sparse}
use Rattle.graph_file.specs.declared.graph.Source.{Source}
use Rattle.graph_eval.specs.declared.fresh.Fresh.{Fresh}
use Rattle.graph_eval.specs.declared.fresh.Fresh.TheVariants as fresh
use Rattle.graph_eval.specs.declared.own.NodeLearned.{NodeLearned}
use Rattle.graph_eval.specs.declared.learned.GraphLearned.{GraphLearned}
use Rattle.graph_eval.specs.declared.outcome.Cause.{Cause}
use Rattle.graph_eval.specs.declared.shapes.GraphSize.{GraphSize}
use Rattle.graph_eval.specs.declared.outcome.Cause.TheVariants.{System}
use Rattle.graph_eval.specs.Evaluated.{IsNeededNode, no_graphs}
use Rattle.graph_eval.specs.GraphValue.{FirstLists, Meaning, NodeFails, meanings, named}
use Rattle.graph_eval.specs.Learned.{ArePlans, FailsLength, FirstLengths, FitsGraph, listed_length, named_length, node_length, plan_of, sets_of, sizes_of}
use Rattle.graph_eval.specs.Systems.{rows_in}

-- By its length rules alone, for a graph none of whose needed nodes is a solver: what was learned fits the graph, with no
-- point, or the rule of a node's length fails.
abbrev pub IsMeasured : List GraphSize → Graph → Fresh → Type 0
IsMeasured sizes graph (fresh.Learned learned) = (learned.point ≡ None) × FitsGraph sizes graph learned
IsMeasured sizes graph (fresh.Singular singular) = ⊥
IsMeasured sizes graph (fresh.Length node) = FailsLength sizes graph node

-- the same of the graph with this number
abbrev pub IsMeasuredAt : List Graph → List GraphLearned → ℕ → Fresh → Type 0
IsMeasuredAt graphs learned number answer = (graph : Graph) × (slice_get graphs number ≡ Some graph) × IsMeasured (sizes_of graphs learned) graph answer

-- the set of a node that solves a system with so many entries: the independent unknowns of its own system, or nothing
-- where the list that it names hasn't as many
abbrev pub IsOwnOf : ℕ → ℕ → ℕ → List (List ℕ) → List ℕ → List ℕ → Type 0
IsOwnOf m unknowns entries rows list set = MatchBool (length list == entries) (IsOwnSet m unknowns rows set) (set ≡ [])

-- the set of a node of this kind on the lists that it names; nothing is learned for a node that is no solver
abbrev pub KindLearns : ℕ → (Source → List ℕ) → NodeKind → List ℕ → Type 0
KindLearns m list (Dense from rows unknowns want) set = IsOwnOf m unknowns (rows * (unknowns + 1)) (rows_in rows unknowns (list from)) (list from) set
KindLearns m list (Sparse from unknowns want rows) set = IsOwnOf m unknowns (entries_of rows) (rows_with unknowns rows (list from)) (list from) set
KindLearns m list kind set = set ≡ []

-- the same, where nothing is learned for a node that isn't needed
abbrev pub NodeLearns : ℕ → (Source → List ℕ) → Node → List ℕ → Type 0
NodeLearns m list node set = MatchBool node.needed (KindLearns m list node.kind set) (set ≡ [])

-- What a node learned on the lists that it names: its plan over its set, or no plan, and then it fails once it has a length.
pub record HasPlanOrFails (m : ℕ) (list : Source → List ℕ) (node : Node) (own : NodeLearned) : Type 0 where
  pub planned : own.planned ≡ true → own.plan ≡ plan_of own.set node
  pub needed : own.planned ≡ false → IsTrue node.needed
  pub fails : own.planned ≡ false → (sizes : List GraphSize) (count : ℕ) → listed_length sizes list own.set node.kind ≡ Some count → IsPrime m → NodeFails m no_graphs own.set list node System

-- a graph's first nodes at a point: each with its own set, its length by its rule with this set, and its list over it
pub record FirstLearned (m : ℕ) (called : ℕ → Meaning) (sizes : List GraphSize) (graph : Graph) (inputs : List ℕ) (sets : List (List ℕ)) (lengths : List ℕ) (lists : List (List ℕ)) : Type 0 where
  pub many_sets : length sets ≡ length lists
  pub many_lengths : length lengths ≡ length lists
  pub own : (n : ℕ) (node : Node) → n < length lists → slice_get graph.nodes n ≡ Some node → NodeLearns m (named inputs (take n lists)) node (slice_index_or sets n [])
  pub measured : FirstLengths sizes graph sets lengths
  pub given : FirstLists m called sets graph.nodes inputs lists

-- no node fails, and their sets, plans and lengths were learned, and the output's length
pub record IsLearned (m : ℕ) (called : ℕ → Meaning) (sizes : List GraphSize) (graph : Graph) (inputs : List ℕ) (learned : GraphLearned) : Type 0 where
  pub lists : List (List ℕ)
  pub first : FirstLearned m called sizes graph inputs learned.sets learned.lengths lists
  pub all : length lists ≡ length graph.nodes
  pub plans : ArePlans graph.nodes learned.sets learned.plans
  pub output : learned.output ≡ named_length (length graph.inputs) learned.lengths graph.output
  pub point : learned.point ≡ None

-- the nodes before the n-th don't fail, and the n-th has this set of its own
pub record IsReached (m : ℕ) (called : ℕ → Meaning) (sizes : List GraphSize) (graph : Graph) (inputs : List ℕ) (n : ℕ) : Type 0 where
  pub sets : List (List ℕ)
  pub lengths : List ℕ
  pub lists : List (List ℕ)
  pub first : FirstLearned m called sizes graph inputs sets lengths lists
  pub before : length lists ≡ n
  pub node : Node
  pub is_node : slice_get graph.nodes n ≡ Some node
  pub set : List ℕ
  pub own : NodeLearns m (named inputs lists) node set

-- the n-th node is the first that fails, by the rule of its length
pub record BreaksLength (m : ℕ) (called : ℕ → Meaning) (sizes : List GraphSize) (graph : Graph) (inputs : List ℕ) (n : ℕ) : Type 0 where
  pub reached : IsReached m called sizes graph inputs n
  pub breaks : node_length sizes (length graph.inputs) reached.lengths reached.set reached.node ≡ None

-- the n-th node is the first that fails: it has a length, and no value
pub record HasNoValue (m : ℕ) (called : ℕ → Meaning) (sizes : List GraphSize) (graph : Graph) (inputs : List ℕ) (n : ℕ) (cause : Cause) : Type 0 where
  pub reached : IsReached m called sizes graph inputs n
  pub own_length : ℕ
  pub measured : node_length sizes (length graph.inputs) reached.lengths reached.set reached.node ≡ Some own_length
  pub fails : NodeFails m called reached.set (named inputs reached.lists) reached.node cause

-- what learning a graph at a point answers, given what the earlier graphs mean
abbrev pub IsFresh : ℕ → (ℕ → Meaning) → List GraphSize → Graph → List ℕ → Fresh → Type 0
IsFresh m called sizes graph inputs (fresh.Learned learned) = IsLearned m called sizes graph inputs learned
IsFresh m called sizes graph inputs (fresh.Singular singular) = HasNoValue m called sizes graph inputs singular.node singular.cause
IsFresh m called sizes graph inputs (fresh.Length node) = BreaksLength m called sizes graph inputs node

-- the same of the graph with this number in a file, where `learned` is what was learned of the graphs before it
abbrev pub IsFreshAt : ℕ → List Graph → List GraphLearned → ℕ → List ℕ → Fresh → Type 0
IsFreshAt m graphs learned number inputs answer = (graph : Graph) × (slice_get graphs number ≡ Some graph) × IsFresh m (meanings m graphs (sets_of learned) number) (sizes_of graphs learned) graph inputs answer

-- whatever the modulus: what was learned fits the graph, with no point, and a node that is told is needed
abbrev pub FitsFresh : List GraphSize → Graph → Fresh → Type 0
FitsFresh sizes graph (fresh.Learned learned) = (learned.point ≡ None) × FitsGraph sizes graph learned
FitsFresh sizes graph (fresh.Singular singular) = IsNeededNode graph singular.node
FitsFresh sizes graph (fresh.Length node) = IsNeededNode graph node

-- the same of the graph with this number
abbrev pub FitsFreshAt : List Graph → List GraphLearned → ℕ → Fresh → Type 0
FitsFreshAt graphs learned number answer = (graph : Graph) × (slice_get graphs number ≡ Some graph) × FitsFresh (sizes_of graphs learned) graph answer
