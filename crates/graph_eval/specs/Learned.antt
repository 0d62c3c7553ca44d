-- What is learned of a graph: the sets of its solvers' unknowns, the plans of its sparse systems and the lengths of its
-- nodes' lists.
use Rattle.std.specs.Prelude.{◌≡◌, ℕ, ◌+◌, ◌-◌, ◌*◌, ◌<◌, ◌≤◌, nat_le, max, if◌then◌else◌, All, Bool, true, false, ◌&&◌, MatchBool, List, [], ◌∷◌, length, map, take, sum, slice_get, slice_index, slice_index_or, Option, Some, None, option_and_then}
use Rattle.elim_core.specs.Solver.{AreUnknowns, IsAscending}
use Rattle.elim_core.specs.Sparse.{entries_of}
use Rattle.elim_core.specs.declared.SparseRow.{SparseRow}
use Rattle.sparse_solver.specs.Plan.{Plan}
use Rattle.ratfun_text.specs.declared.expr.Expr.{Expr}
use Rattle.std.specs.List.{list_any}
use Rattle.ratfun_text.specs.Value.{greatest}
use Rattle.basic_nodes.specs.Lengths.{length_rule}
use Rattle.basic_nodes.specs.declared.lengths.NodeShape.{NodeShape}
use Rattle.basic_nodes.specs.declared.lengths.NodeShape.TheVariants as shape
use Rattle.graph_file.specs.Needed.{sources_of}
use Rattle.graph_file.specs.Sound.{CallsEarlier, IsGraph, IsKind}
use Rattle.graph_file.specs.declared.graph.Graph.{Graph}
use Rattle.graph_file.specs.declared.graph.Node.{Node}
use Rattle.graph_file.specs.declared.graph.NodeKind.{NodeKind}
use Rattle.graph_file.specs.declared.graph.NodeKind.TheVariants.{Eval, Take, Slice, Chain, Sum, Product, Matmul, Dense, Sparse, Call, Memo, Map, Laurent}
use Rattle.graph_file.specs.declared.graph.Source.{Source}
use Rattle.graph_file.specs.declared.graph.Source.TheVariants as source
use Rattle.graph_eval.specs.Expanded.{orders_of, window_of}
use Rattle.graph_eval.specs.declared.learned.GraphLearned.{GraphLearned}
use Rattle.graph_eval.specs.declared.shapes.GraphSize.{GraphSize}

-- whether a node of this kind solves a system of equations
abbrev pub is_system : NodeKind → Bool
is_system (Dense from rows unknowns want) = true
is_system (Sparse from unknowns want rows) = true
is_system kind = false

-- the greatest position that an expression among these uses, 0 where none uses any
abbrev pub greatest_among : List Expr → ℕ
greatest_among [] = 0
greatest_among (expr ∷ rest) = max (greatest expr) (greatest_among rest)

-- how many inputs a graph has, and how long its output is, as was learned
abbrev pub size_of : Graph → GraphLearned → GraphSize
size_of graph learned = record { inputs = length graph.inputs; outputs = learned.output }

-- the sizes of the first graphs of a file, in order
abbrev pub Sizes : Type 0
Sizes = List GraphSize

-- the sizes of those of which this was learned
abbrev pub sizes_of : List Graph → List GraphLearned → Sizes
sizes_of graphs [] = []
sizes_of [] (entry ∷ learned) = []
sizes_of (graph ∷ graphs) (entry ∷ learned) = size_of graph entry ∷ sizes_of graphs learned

-- the size of the graph with this number, counted from 0
abbrev pub size_at : List GraphSize → ℕ → GraphSize
size_at sizes number = slice_index_or sizes number (record { inputs = 0; outputs = 0 })

-- each of these graphs has few inputs
abbrev pub AreFew : List GraphSize → Type 0
AreFew sizes = All (λ size. size.inputs ≤ 8) sizes

-- what the length of a node's list depends on, where the set was learned for the node, and the graphs before its own have these sizes
abbrev pub shape_of : List GraphSize → List ℕ → NodeKind → NodeShape
shape_of sizes set (Eval from exprs) = shape.Eval (length exprs) (greatest_among exprs)
shape_of sizes set (Take parts) = shape.Take (map (λ part. part.1) parts)
shape_of sizes set (Slice from first last) = shape.Slice first last
shape_of sizes set (Chain parts) = shape.Chain
shape_of sizes set (Sum parts) = shape.Sum
shape_of sizes set (Product parts) = shape.Product
shape_of sizes set (Matmul left right rows mid cols) = shape.Matmul rows mid cols
shape_of sizes set (Dense from rows unknowns want) = shape.Solver (rows * (unknowns + 1)) (length want) (length set)
shape_of sizes set (Sparse from unknowns want rows) = shape.Solver (entries_of rows) (length want) (length set)
shape_of sizes set (Call graph parts) = shape.Call (size_at sizes graph).inputs (size_at sizes graph).outputs
shape_of sizes set (Memo graph parts) = shape.Call (size_at sizes graph).inputs (size_at sizes graph).outputs
shape_of sizes set (Map graph parts) = shape.Map (size_at sizes graph).inputs (size_at sizes graph).outputs
shape_of sizes set (Laurent graph lo hi num den parts) = shape.Laurent (size_at sizes graph).inputs (size_at sizes graph).outputs (orders_of (window_of lo hi num den))

-- the length of the list that a source names, where there are so many inputs and the nodes have these lengths
abbrev pub named_length : ℕ → List ℕ → Source → ℕ
named_length inputs lengths source.Input = inputs
named_length inputs lengths (source.Node number) = slice_index lengths number

-- the length that the rule of a node's kind gives on the lengths of the lists that the node names
abbrev pub kind_length : List GraphSize → ℕ → List ℕ → List ℕ → NodeKind → Option ℕ
kind_length sizes inputs earlier set kind = length_rule (shape_of sizes set kind) (map (named_length inputs earlier) (sources_of kind))

-- the same on the lists themselves
abbrev pub listed_length : List GraphSize → (Source → List ℕ) → List ℕ → NodeKind → Option ℕ
listed_length sizes list set kind = length_rule (shape_of sizes set kind) (map (λ from. length (list from)) (sources_of kind))

-- the length, where the lists of a graph then have at most 2097152 entries together
abbrev pub joined_length : List ℕ → ℕ → Option ℕ
joined_length earlier own = if nat_le (sum earlier + own) 2097152 then Some own else None

-- the length of a node's list behind nodes of these lengths, where the set was learned for the node, or None where a rule
-- fails; a node that isn't needed has length 0
abbrev pub node_length : List GraphSize → ℕ → List ℕ → List ℕ → Node → Option ℕ
node_length sizes inputs earlier set node = if node.needed then option_and_then (joined_length earlier) (kind_length sizes inputs earlier set node.kind) else Some 0

-- the lengths of the lists of a graph's first nodes, each by its rule on the lengths before it, with its learned set
pub record FirstLengths (sizes : List GraphSize) (graph : Graph) (sets : List (List ℕ)) (lengths : List ℕ) : Type 0 where
  pub within : length lengths ≤ length graph.nodes
  pub each : (n : ℕ) (node : Node) → n < length lengths → slice_get graph.nodes n ≡ Some node → node_length sizes (length graph.inputs) (take n lengths) (slice_index_or sets n []) node ≡ Some (slice_index lengths n)

-- what may be learned for a node of this kind: unknowns of a solver, ascending, and nothing for another node
abbrev pub IsKindSet : NodeKind → List ℕ → Type 0
IsKindSet (Dense from rows unknowns want) set = IsAscending set × AreUnknowns unknowns set
IsKindSet (Sparse from unknowns want rows) set = IsAscending set × AreUnknowns unknowns set
IsKindSet kind set = set ≡ []

-- the same, where nothing is learned for a node that isn't needed
abbrev pub IsSetFor : Node → List ℕ → Type 0
IsSetFor node set = MatchBool node.needed (IsKindSet node.kind set) (set ≡ [])

-- the plan of a system of sparse rows that is learned with this set
abbrev pub plan_over : ℕ → List SparseRow → List ℕ → Plan
plan_over unknowns rows set = record { unknowns = unknowns; rows = rows; learned = Some set }

-- the plan of a node of this kind over its set: a sparse system has one, with its own unknowns and rows, and no other node
abbrev pub kind_plan : List ℕ → NodeKind → Option Plan
kind_plan set (Sparse from unknowns want rows) = Some (plan_over unknowns rows set)
kind_plan set kind = None

-- the same, where a node that isn't needed has none
abbrev pub plan_of : List ℕ → Node → Option Plan
plan_of set node = if node.needed then kind_plan set node.kind else None

-- each of the nodes has its plan over its set
pub record ArePlans (nodes : List Node) (sets : List (List ℕ)) (plans : List (Option Plan)) : Type 0 where
  pub many : length plans ≡ length nodes
  pub each : (n : ℕ) (node : Node) → slice_get nodes n ≡ Some node → slice_index_or plans n None ≡ plan_of (slice_index_or sets n []) node

-- so many places without a plan
pub record AreNone (count : ℕ) (plans : List (Option Plan)) : Type 0 where
  pub many : length plans ≡ count
  pub each : (n : ℕ) → slice_index_or plans n None ≡ None

-- the node has so many entries by the rule of its kind on the lists that it names, and none where it isn't needed
abbrev pub HasOwnLength : List GraphSize → (Source → List ℕ) → List ℕ → Node → ℕ → Type 0
HasOwnLength sizes list set node own = MatchBool node.needed (listed_length sizes list set node.kind ≡ Some own) (own ≡ 0)

-- as many empty sets
pub record AreEmpty (count : ℕ) (sets : List (List ℕ)) : Type 0 where
  pub many : length sets ≡ count
  pub each : (n : ℕ) → slice_index_or sets n [] ≡ []

-- what was learned of a graph has a set and a plan for every node, the length of every node's list, and that of the output
pub record FitsGraph (sizes : List GraphSize) (graph : Graph) (learned : GraphLearned) : Type 0 where
  pub many : length learned.sets ≡ length graph.nodes
  pub sets : (n : ℕ) (node : Node) → slice_get graph.nodes n ≡ Some node → IsSetFor node (slice_index_or learned.sets n [])
  pub plans : ArePlans graph.nodes learned.sets learned.plans
  pub first : FirstLengths sizes graph learned.sets learned.lengths
  pub all : length learned.lengths ≡ length graph.nodes
  pub output : learned.output ≡ named_length (length graph.inputs) learned.lengths graph.output

-- what was learned of a graph of so many inputs has a set, a plan and a length for the node at this place, which is sound
pub record FitsNode (sizes : List GraphSize) (inputs : ℕ) (learned : GraphLearned) (place : ℕ) (node : Node) : Type 0 where
  pub sound : IsKind inputs place node.kind
  pub many_sets : place < length learned.sets
  pub many_plans : place < length learned.plans
  pub many_lengths : place < length learned.lengths
  pub set : IsSetFor node (slice_index_or learned.sets place [])
  pub plan : slice_index_or learned.plans place None ≡ plan_of (slice_index_or learned.sets place []) node
  pub long : node_length sizes inputs (take place learned.lengths) (slice_index_or learned.sets place []) node ≡ Some (slice_index learned.lengths place)

-- whether the node is a solver whose value is needed
abbrev pub is_solver : Node → Bool
is_solver node = node.needed && is_system node.kind

-- whether some needed node of the graph is a solver
abbrev pub has_solver : Graph → Bool
has_solver graph = list_any is_solver graph.nodes

-- the graph with this number has no needed node that is a solver
abbrev pub IsPlainAt : List Graph → ℕ → Type 0
IsPlainAt graphs number = (graph : Graph) → slice_get graphs number ≡ Some graph → has_solver graph ≡ false

-- where nothing is learned for any node, every node before the n-th has a length, and the rule of the n-th, which is
-- needed, fails
pub record FailsLength (sizes : List GraphSize) (graph : Graph) (n : ℕ) : Type 0 where
  pub lengths : List ℕ
  pub first : FirstLengths sizes graph [] lengths
  pub before : length lengths ≡ n
  pub node : Node
  pub is_node : slice_get graph.nodes n ≡ Some node
  pub fails : node_length sizes (length graph.inputs) lengths [] node ≡ None

-- each of these graphs is sound
pub record AreGraphs (graphs : List Graph) : Type 0 where
  pub graph : (k : ℕ) (graph : Graph) → slice_get graphs k ≡ Some graph → IsGraph graph

-- each of these graphs calls earlier ones alone
pub record CallEarlier (graphs : List Graph) : Type 0 where
  pub graph : (k : ℕ) (graph : Graph) → slice_get graphs k ≡ Some graph → CallsEarlier k graph

-- what was learned of the first so many graphs of a file, an entry for each in order
pub record FitsFirst (graphs : List Graph) (learned : List GraphLearned) (count : ℕ) : Type 0 where
  pub many : length learned ≡ count
  pub each : (k : ℕ) (graph : Graph) (entry : GraphLearned) → slice_get graphs k ≡ Some graph → slice_get learned k ≡ Some entry → FitsGraph (sizes_of graphs (take k learned)) graph entry

-- what was learned of all graphs of a file
abbrev pub Fits : List Graph → List GraphLearned → Type 0
Fits graphs learned = FitsFirst graphs learned (length graphs)

-- the sets that were learned, a list of them a graph
abbrev pub sets_of : List GraphLearned → List (List (List ℕ))
sets_of learned = map (λ entry. entry.sets) learned

-- the length of the output of the last graph that was learned
abbrev pub output_of : Option GraphLearned → ℕ
output_of None = 0
output_of (Some entry) = entry.output

abbrev pub outputs_of : List GraphLearned → ℕ
outputs_of learned = output_of (slice_get learned (length learned - 1))
