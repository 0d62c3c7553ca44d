-- The value of a graph at a point, modulo m.
use Rattle.std.specs.Prelude.{◌≡◌, ℕ, ◌⊎◌, zero, suc, ◌-◌, ◌<◌, ◌≤◌, ◌==◌, Bool, true, false, IsTrue, MatchBool, List, [], length, map, take, slice_get, slice_index_or, Option, Some, None}
use Rattle.elim_core.specs.Solved.{IsSolved}
use Rattle.elim_core.specs.Solver.{HasSolverValue}
use Rattle.elim_core.specs.Sparse.{rows_with}
use Rattle.ratfun_text.specs.Value.{value}
use Rattle.basic_nodes.specs.Plain.{taken, sliced, chained, summed, multiplied, matrix_product}
use Rattle.graph_file.specs.Line.{all_of}
use Rattle.graph_file.specs.declared.graph.Graph.{Graph}
use Rattle.graph_file.specs.declared.graph.Node.{Node}
use Rattle.graph_file.specs.declared.graph.NodeKind.{NodeKind}
use Rattle.graph_file.specs.declared.graph.NodeKind.TheVariants.{Eval, Take, Slice, Chain, Sum, Product, Matmul, Dense, Sparse, Call, Memo, Map, Laurent}
use Rattle.graph_file.specs.declared.graph.Source.{Source}
use Rattle.graph_file.specs.declared.graph.Source.TheVariants as source
use Rattle.graph_eval.specs.declared.outcome.Cause.{Cause}
use Rattle.graph_eval.specs.declared.outcome.Cause.TheVariants.{Division, System}
use Rattle.graph_eval.specs.Expanded.{FailsToExpand, IsExpandedFrom, column, expansion_inputs, width_of, window_of}
use Rattle.graph_eval.specs.Systems.{rows_in}
use Rattle.graph_eval.specs.declared.expansion.Window.{Window}

-- what a graph gives at a point: the list of its output, or the first needed node without a value and the cause
pub data Outcome : Type 0 where
  Value : (list : List ℕ) → Outcome
  SingularAt : (node : ℕ) (cause : Cause) → Outcome

-- which outcomes a graph has at which inputs
abbrev pub Meaning : Type 1
Meaning = List ℕ → Outcome → Type 0

-- the list that a source names: the graph's inputs, or what an earlier node gave
abbrev pub named : List ℕ → List (List ℕ) → Source → List ℕ
named inputs earlier source.Input = inputs
named inputs earlier (source.Node number) = slice_index_or earlier number []

-- a graph has one outcome at most at the same inputs
pub record IsOnce (called : Meaning) : Type 0 where
  pub once : (inputs : List ℕ) (one other : Outcome) → called inputs one → called inputs other → one ≡ other

-- a graph gives these lists on the first of some lists, each on its own
pub record GivesFirst (called : Meaning) (ins outs : List (List ℕ)) : Type 0 where
  pub within : length outs ≤ length ins
  pub each : (n : ℕ) → n < length outs → called (slice_index_or ins n []) (Value (slice_index_or outs n []))

-- a graph has a value on each of some lists, and these are its values one after the other
pub record IsMapped (called : Meaning) (ins : List (List ℕ)) (values : List ℕ) : Type 0 where
  pub outs : List (List ℕ)
  pub first : GivesFirst called ins outs
  pub all : length outs ≡ length ins
  pub values_are : values ≡ chained outs

-- a graph is singular on one of some lists, for this cause, and has a value on those before it
pub record IsStopped (called : Meaning) (ins : List (List ℕ)) (cause : Cause) : Type 0 where
  pub outs : List (List ℕ)
  pub first : GivesFirst called ins outs
  pub before : length outs < length ins
  pub node : ℕ
  pub singular : called (slice_index_or ins (length outs) []) (SingularAt node cause)

-- a graph has a value at each point, and these are the expansions of its outputs one after the other
pub record IsExpanded (m : ℕ) (window : Window) (called : Meaning) (rest values : List ℕ) : Type 0 where
  pub outs : List (List ℕ)
  pub first : GivesFirst called (expansion_inputs window rest) outs
  pub all : length outs ≡ length (expansion_inputs window rest)
  pub lists : List (List ℕ)
  pub many : length lists ≡ width_of outs
  pub each : (k : ℕ) → k < length lists → IsExpandedFrom m window (column k outs) (slice_index_or lists k [])
  pub values_are : values ≡ chained lists

-- a graph has a value at each point, and its first outputs have expansions, but the next has none, for this cause
pub record HasNoExpansion (m : ℕ) (window : Window) (called : Meaning) (rest : List ℕ) (cause : Cause) : Type 0 where
  pub outs : List (List ℕ)
  pub first : GivesFirst called (expansion_inputs window rest) outs
  pub all : length outs ≡ length (expansion_inputs window rest)
  pub lists : List (List ℕ)
  pub each : (k : ℕ) → k < length lists → IsExpandedFrom m window (column k outs) (slice_index_or lists k [])
  pub before : length lists < width_of outs
  pub fails : FailsToExpand m window (column (length lists) outs) cause

-- a graph is singular at one of the points, or an output has no expansion, for this cause
abbrev pub IsNotExpanded : ℕ → Window → Meaning → List ℕ → Cause → Type 0
IsNotExpanded m window called rest cause = IsStopped called (expansion_inputs window rest) cause ⊎ HasNoExpansion m window called rest cause

-- A node of this kind has these values, on the lists that its sources name. `called` is what the earlier
-- graphs of the file mean, and `learned` holds the unknowns that were learned for the node.
abbrev pub KindGives : ℕ → (ℕ → Meaning) → List ℕ → (Source → List ℕ) → NodeKind → List ℕ → Type 0
KindGives m called learned list (Eval from exprs) values = all_of (map (value m (list from)) exprs) ≡ Some values
KindGives m called learned list (Take parts) values = values ≡ taken (map (λ part. list part.0) parts) (map (λ part. part.1) parts)
KindGives m called learned list (Slice from first last) values = values ≡ sliced first last (list from)
KindGives m called learned list (Chain parts) values = values ≡ chained (map list parts)
KindGives m called learned list (Sum parts) values = values ≡ summed m (map list parts)
KindGives m called learned list (Product parts) values = values ≡ multiplied m (map list parts)
KindGives m called learned list (Matmul left right rows mid cols) values = values ≡ matrix_product m rows mid cols (list left) (list right)
KindGives m called learned list (Dense from rows unknowns want) values = IsSolved m unknowns (rows_in rows unknowns (list from)) learned want values
KindGives m called learned list (Sparse from unknowns want rows) values = IsSolved m unknowns (rows_with unknowns rows (list from)) learned want values
KindGives m called learned list (Call graph parts) values = called graph (chained (map list parts)) (Value values)
KindGives m called learned list (Memo graph parts) values = called graph (chained (map list parts)) (Value values)
KindGives m called learned list (Map graph parts) values = IsMapped (called graph) (map list parts) values
KindGives m called learned list (Laurent graph lo hi num den parts) values = IsExpanded m (window_of lo hi num den) (called graph) (chained (map list parts)) values

-- A node of this kind has no value, for this cause.
abbrev pub KindFails : ℕ → (ℕ → Meaning) → List ℕ → (Source → List ℕ) → NodeKind → Cause → Type 0
KindFails m called learned list (Eval from exprs) cause = (all_of (map (value m (list from)) exprs) ≡ None) × (cause ≡ Division)
KindFails m called learned list (Take parts) cause = ⊥
KindFails m called learned list (Slice from first last) cause = ⊥
KindFails m called learned list (Chain parts) cause = ⊥
KindFails m called learned list (Sum parts) cause = ⊥
KindFails m called learned list (Product parts) cause = ⊥
KindFails m called learned list (Matmul left right rows mid cols) cause = ⊥
KindFails m called learned list (Dense from rows unknowns want) cause = (HasSolverValue m unknowns (rows_in rows unknowns (list from)) learned → ⊥) × (cause ≡ System)
KindFails m called learned list (Sparse from unknowns want rows) cause = (HasSolverValue m unknowns (rows_with unknowns rows (list from)) learned → ⊥) × (cause ≡ System)
KindFails m called learned list (Call graph parts) cause = (node : ℕ) × called graph (chained (map list parts)) (SingularAt node cause)
KindFails m called learned list (Memo graph parts) cause = (node : ℕ) × called graph (chained (map list parts)) (SingularAt node cause)
KindFails m called learned list (Map graph parts) cause = IsStopped (called graph) (map list parts) cause
KindFails m called learned list (Laurent graph lo hi num den parts) cause = IsNotExpanded m (window_of lo hi num den) (called graph) (chained (map list parts)) cause

-- a node that is needed gives its value, and one that isn't is left out and gives nothing
abbrev pub NodeGives : ℕ → (ℕ → Meaning) → List ℕ → (Source → List ℕ) → Node → List ℕ → Type 0
NodeGives m called learned list node values = MatchBool node.needed (KindGives m called learned list node.kind values) (values ≡ [])

abbrev pub NodeFails : ℕ → (ℕ → Meaning) → List ℕ → (Source → List ℕ) → Node → Cause → Type 0
NodeFails m called learned list node cause = IsTrue node.needed × KindFails m called learned list node.kind cause

-- the lists that the first nodes of a graph give, each on the lists of the nodes before it
pub record FirstLists (m : ℕ) (called : ℕ → Meaning) (learned : List (List ℕ)) (nodes : List Node) (inputs : List ℕ) (lists : List (List ℕ)) : Type 0 where
  pub within : length lists ≤ length nodes
  pub each : (n : ℕ) (node : Node) → n < length lists → slice_get nodes n ≡ Some node → NodeGives m called (slice_index_or learned n []) (named inputs (take n lists)) node (slice_index_or lists n [])

-- every node gives its list, and the output names this one
pub record IsValue (m : ℕ) (called : ℕ → Meaning) (learned : List (List ℕ)) (graph : Graph) (inputs values : List ℕ) : Type 0 where
  pub lists : List (List ℕ)
  pub first : FirstLists m called learned graph.nodes inputs lists
  pub all : length lists ≡ length graph.nodes
  pub output : values ≡ named inputs lists graph.output

-- every node before the n-th gives its list, and the n-th, which is needed, has no value
pub record IsSingular (m : ℕ) (called : ℕ → Meaning) (learned : List (List ℕ)) (graph : Graph) (inputs : List ℕ) (n : ℕ) (cause : Cause) : Type 0 where
  pub lists : List (List ℕ)
  pub first : FirstLists m called learned graph.nodes inputs lists
  pub before : length lists ≡ n
  pub node : Node
  pub is_node : slice_get graph.nodes n ≡ Some node
  pub fails : NodeFails m called (slice_index_or learned n []) (named inputs lists) node cause

-- what a graph means, given what the earlier graphs mean and what was learned for its nodes
abbrev pub GraphMeans : ℕ → (ℕ → Meaning) → List (List ℕ) → Graph → Meaning
GraphMeans m called learned graph inputs (Value values) = IsValue m called learned graph inputs values
GraphMeans m called learned graph inputs (SingularAt n cause) = IsSingular m called learned graph inputs n cause

abbrev pub MeansAt : ℕ → (ℕ → Meaning) → List (List ℕ) → Option Graph → Meaning
MeansAt m called learned None inputs outcome = ⊥
MeansAt m called learned (Some graph) inputs outcome = GraphMeans m called learned graph inputs outcome

abbrev pub choose : Bool → Meaning → Meaning → Meaning
choose true first second = first
choose false first second = second

-- what the first graphs of a file mean, by their number in it: each rests on those before it alone
abbrev pub meanings : ℕ → List Graph → List (List (List ℕ)) → ℕ → ℕ → Meaning
meanings m graphs learned zero number = λ inputs outcome. ⊥
meanings m graphs learned (suc count) number = choose (number == count) (MeansAt m (meanings m graphs learned count) (slice_index_or learned count []) (slice_get graphs count)) (meanings m graphs learned count number)

-- the outcome of one graph of a file at these inputs: `learned` has, for each graph, what was learned for each node
abbrev pub GraphValue : ℕ → List Graph → List (List (List ℕ)) → ℕ → Meaning
GraphValue m graphs learned number = MeansAt m (meanings m graphs learned number) (slice_index_or learned number []) (slice_get graphs number)

-- the number of the main graph, which is the last of a file
abbrev pub main_number : List Graph → ℕ
main_number graphs = length graphs - 1
