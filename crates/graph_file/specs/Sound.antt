-- What holds of the graphs and points of every file that is read.
use Rattle.std.specs.Prelude.{◌≡◌, ◌≢◌, ℕ, ℤ, pos, negsuc, ◌≤ℤ◌, ◌<◌, ◌≤◌, ◌-◌, ◌*◌, List, length, Option, Some, None, IsTrue, codes, slice_get}
use Rattle.ratfun_text.specs.Bytes.{is_name}
use Rattle.ratfun_text.specs.Value.{greatest}
use Rattle.ratfun_text.specs.declared.expr.Expr.{Expr}
use Rattle.elim_core.specs.Solver.{AreUnknowns}
use Rattle.elim_core.specs.Sparse.{AreSparseRows, entries_of}
use Rattle.elim_core.specs.declared.SparseRow.{SparseRow}
use Rattle.graph_file.specs.Needed.{IsNeeded}
use Rattle.graph_file.specs.declared.graph.Graph.{Graph}
use Rattle.graph_file.specs.declared.graph.Node.{Node}
use Rattle.graph_file.specs.declared.graph.NodeKind.{NodeKind}
use Rattle.graph_file.specs.declared.graph.NodeKind.TheVariants.{Eval, Take, Slice, Chain, Sum, Product, Matmul, Dense, Sparse, Call, Memo, Map, Laurent}
use Rattle.graph_file.specs.declared.graph.Source.{Source}
use Rattle.graph_file.specs.declared.graph.Source.TheVariants as source

-- the names are distinct, and each is a letter with letters, digits and underscores behind it, of at most 32 bytes
pub record AreNames (names : List (List ℕ)) : Type 0 where
  pub named : (k : ℕ) (name : List ℕ) → slice_get names k ≡ Some name → IsTrue (is_name name)
  pub short : (k : ℕ) (name : List ℕ) → slice_get names k ≡ Some name → length name ≤ 32
  pub distinct : (i j : ℕ) (name : List ℕ) → slice_get names i ≡ Some name → slice_get names j ≡ Some name → i ≡ j

-- a position in a list, or a number of rows or columns
pub record IsPosition (position : ℕ) : Type 0 where
  pub first : 1 ≤ position
  pub last : position ≤ 262144

-- the matrices of these rows and columns have at most 262144 entries
pub record AreSides (rows mid cols : ℕ) : Type 0 where
  pub height : IsPosition rows
  pub depth : IsPosition mid
  pub width : IsPosition cols
  pub whole : rows * cols ≤ 262144
  pub left : rows * mid ≤ 262144
  pub right : mid * cols ≤ 262144

-- the list is there: the graph's input, or the list of a node before the one with this number, counted from 0
abbrev pub IsEarlier : ℕ → Source → Type 0
IsEarlier number source.Input = Unit {0}
IsEarlier number (source.Node k) = k < number

-- at least one expression; over the input the arguments are those of the variables
pub record IsEval (variables number : ℕ) (from : Source) (exprs : List Expr) : Type 0 where
  pub earlier : IsEarlier number from
  pub some : 1 ≤ length exprs
  pub arguments : from ≡ source.Input → (k : ℕ) (expr : Expr) → slice_get exprs k ≡ Some expr → greatest expr ≤ variables

-- at least one entry of a list, each given by the list and a position
pub record IsTake (number : ℕ) (parts : List (Source × ℕ)) : Type 0 where
  pub earlier : (k : ℕ) (part : Source × ℕ) → slice_get parts k ≡ Some part → IsEarlier number part.0
  pub some : 1 ≤ length parts
  pub positions : (k : ℕ) (part : Source × ℕ) → slice_get parts k ≡ Some part → IsPosition part.1

-- positions from a first to a last one
pub record IsSlice (number : ℕ) (from : Source) (first last : ℕ) : Type 0 where
  pub earlier : IsEarlier number from
  pub low : 1 ≤ first
  pub order : first ≤ last
  pub high : last ≤ 262144

-- at least one list
pub record AreLists (number : ℕ) (parts : List Source) : Type 0 where
  pub earlier : (k : ℕ) (from : Source) → slice_get parts k ≡ Some from → IsEarlier number from
  pub some : 1 ≤ length parts

-- two matrices, whose product is there
pub record IsMatmul (number : ℕ) (left right : Source) (rows mid cols : ℕ) : Type 0 where
  pub first : IsEarlier number left
  pub second : IsEarlier number right
  pub sides : AreSides rows mid cols

-- a system of 1 to 512 equations in 1 to 511 unknowns, of which some are wanted, each by its number, counted from 1
pub record IsDense (number : ℕ) (from : Source) (rows unknowns : ℕ) (want : List ℕ) : Type 0 where
  pub earlier : IsEarlier number from
  pub rows_low : 1 ≤ rows
  pub rows_high : rows ≤ 512
  pub unknowns_low : 1 ≤ unknowns
  pub unknowns_high : unknowns ≤ 511
  pub some : 0 < length want
  pub wanted : AreUnknowns unknowns want

-- at least one row, each with at least one entry, and together at most 65536
pub record AreFewRows (unknowns : ℕ) (rows : List SparseRow) : Type 0 where
  pub some : 1 ≤ length rows
  pub filled : (k : ℕ) (row : SparseRow) → slice_get rows k ≡ Some row → 1 ≤ length row.columns
  pub over : AreSparseRows unknowns rows
  pub bounded : entries_of rows ≤ 65536

-- a system of sparse rows in 1 to 4096 unknowns, of which some are wanted, each by its number, counted from 1
pub record IsSparse (number : ℕ) (from : Source) (unknowns : ℕ) (want : List ℕ) (rows : List SparseRow) : Type 0 where
  pub earlier : IsEarlier number from
  pub unknowns_low : 1 ≤ unknowns
  pub unknowns_high : unknowns ≤ 4096
  pub some : 0 < length want
  pub wanted : AreUnknowns unknowns want
  pub filled : AreFewRows unknowns rows

-- orders from -64 to 64, the lowest at most the highest, degrees of at most 64, and any number of lists
pub record IsLaurent (number : ℕ) (lo hi : ℤ) (num den : ℕ) (parts : List Source) : Type 0 where
  pub earlier : (k : ℕ) (from : Source) → slice_get parts k ≡ Some from → IsEarlier number from
  pub lowest : negsuc 63 ≤ℤ lo
  pub ordered : lo ≤ℤ hi
  pub highest : hi ≤ℤ pos 64
  pub num_low : num ≤ 64
  pub den_low : den ≤ 64

-- in a graph of this many variables the node with this number, counted from 0, may compute this
abbrev pub IsKind : ℕ → ℕ → NodeKind → Type 0
IsKind variables number (Eval from exprs) = IsEval variables number from exprs
IsKind variables number (Take parts) = IsTake number parts
IsKind variables number (Slice from first last) = IsSlice number from first last
IsKind variables number (Chain parts) = AreLists number parts
IsKind variables number (Sum parts) = AreLists number parts
IsKind variables number (Product parts) = AreLists number parts
IsKind variables number (Matmul left right rows mid cols) = IsMatmul number left right rows mid cols
IsKind variables number (Dense from rows unknowns want) = IsDense number from rows unknowns want
IsKind variables number (Sparse from unknowns want rows) = IsSparse number from unknowns want rows
IsKind variables number (Call graph parts) = AreLists number parts
IsKind variables number (Memo graph parts) = AreLists number parts
IsKind variables number (Map graph parts) = AreLists number parts
IsKind variables number (Laurent graph lo hi num den parts) = IsLaurent number lo hi num den parts

-- the number, counted from 0, of the graph that a node calls
abbrev pub called_graph : NodeKind → Option ℕ
called_graph (Call graph parts) = Some graph
called_graph (Memo graph parts) = Some graph
called_graph (Map graph parts) = Some graph
called_graph (Laurent graph lo hi num den parts) = Some graph
called_graph _ = None

-- the graphs that a graph's nodes call stand before the one with this number, counted from 0
abbrev pub CallsEarlier : ℕ → Graph → Type 0
CallsEarlier number graph = (k : ℕ) (node : Node) (called : ℕ) → slice_get graph.nodes k ≡ Some node → called_graph node.kind ≡ Some called → called < number

-- the node with this number, counted from 0, has a name of at most 32 bytes that isn't `input`, and is sound in a graph
-- of this many variables
pub record IsNode (variables number : ℕ) (node : Node) : Type 0 where
  pub named : IsTrue (is_name node.name)
  pub short : length node.name ≤ 32
  pub no_input : node.name ≢ codes "input"
  pub kind : IsKind variables number node.kind

-- a node is marked where the output rests on it
pub record IsMarked (graph : Graph) (k : ℕ) (node : Node) : Type 0 where
  pub needed : IsTrue node.needed → ∥ IsNeeded graph k ∥₁
  pub marked : IsNeeded graph k → IsTrue node.needed

-- a graph has a name, which is a letter with letters, digits and underscores behind it, of at most 32 bytes, 1 to 8 variables, at most 4096 sound nodes with distinct names, each marked
-- where it is needed, and its input or one of its nodes as output
pub record IsGraph (graph : Graph) : Type 0 where
  pub named : IsTrue (is_name graph.name)
  pub short : length graph.name ≤ 32
  pub some : 1 ≤ length graph.inputs
  pub few : length graph.inputs ≤ 8
  pub variables : AreNames graph.inputs
  pub bounded : length graph.nodes ≤ 4096
  pub nodes : (k : ℕ) (node : Node) → slice_get graph.nodes k ≡ Some node → IsNode (length graph.inputs) k node
  pub distinct : (i j : ℕ) (first second : Node) → slice_get graph.nodes i ≡ Some first → slice_get graph.nodes j ≡ Some second → first.name ≡ second.name → i ≡ j
  pub marks : (k : ℕ) (node : Node) → slice_get graph.nodes k ≡ Some node → IsMarked graph k node
  pub output : (k : ℕ) → graph.output ≡ source.Node k → k < length graph.nodes

-- there are 1 to 64 graphs with distinct names and at most 65536 points, each graph is sound and calls earlier ones alone,
-- and each point has an entry for each variable of the last graph
pub record IsJob (graphs : List Graph) (points : List (List ℕ)) : Type 0 where
  pub main : 1 ≤ length graphs
  pub bounded : length graphs ≤ 64
  pub few_points : length points ≤ 65536
  pub graph : (k : ℕ) (graph : Graph) → slice_get graphs k ≡ Some graph → IsGraph graph
  pub calls : (k : ℕ) (graph : Graph) → slice_get graphs k ≡ Some graph → CallsEarlier k graph
  pub distinct : (i j : ℕ) (first second : Graph) → slice_get graphs i ≡ Some first → slice_get graphs j ≡ Some second → first.name ≡ second.name → i ≡ j
  pub entries : (k : ℕ) (point : List ℕ) (graph : Graph) → slice_get points k ≡ Some point → slice_get graphs (length graphs - 1) ≡ Some graph → length point ≡ length graph.inputs
