-- What is kept of the lines that have been read.
use Rattle.std.specs.Prelude.{ℕ, ◌≡◌, ◌≢◌, ◌≤◌, ◌<◌, ◌+◌, Bool, true, false, ◌||◌, IsTrue, List, [], ◌∷◌, ◌++◌, length, Option, Some, None, codes, slice_get}
use Rattle.elim_core.specs.Sparse.{entries_of}
use Rattle.elim_core.specs.declared.SparseRow.{SparseRow}
use Rattle.ratfun_text.specs.Bytes.{is_name}
use Rattle.ratfun_text.specs.declared.names.Names.{Names}
use Rattle.ratfun_text.specs.declared.names.Names.TheVariants.{Listed}
use Rattle.ratfun_text.specs.Names.{names_of as variables_of}
use Rattle.graph_file.specs.declared.graph.Node.{Node}
use Rattle.graph_file.specs.declared.graph.NodeKind.{NodeKind}
use Rattle.graph_file.specs.declared.graph.NodeKind.TheVariants as node
use Rattle.graph_file.specs.declared.graph.Source.{Source}
use Rattle.graph_file.specs.declared.graph.Source.TheVariants as source
use Rattle.graph_file.specs.declared.line.Last.{Last}
use Rattle.graph_file.specs.declared.line.Last.TheVariants as last
use Rattle.graph_file.specs.declared.line.Line.{Line}
use Rattle.graph_file.specs.declared.line.Line.TheVariants as line
use Rattle.graph_file.specs.declared.line.Statement.{Statement}
use Rattle.graph_file.specs.declared.line.Statement.TheVariants as statement
use Rattle.graph_file.specs.Facts.{is_job_line}
use Rattle.graph_file.specs.Faults.{goes_on, is_flow_line, is_graph_line, is_input_line, is_row_line}
use Rattle.graph_file.specs.Says.{names_of}
use Rattle.graph_file.specs.Sound.{AreFewRows, AreNames, IsKind, IsSparse}

-- the kind of a `node` line
abbrev pub node_stood : Statement → Last
node_stood (statement.Sparse from unknowns want) = last.Sparse
node_stood _ = last.Node

-- the kind of the line that stood last
abbrev pub last_of : List Line → Last
last_of [] = last.Start
last_of (line.Flow version ∷ before) = last.Flow
last_of (line.Graph name ∷ before) = last.Graph
last_of (line.Input names ∷ before) = last.Input
last_of (line.Node name statement ∷ before) = node_stood statement
last_of (line.Row columns ∷ before) = last.Row
last_of (line.Output list ∷ before) = last.Output
last_of (_ ∷ before) = last.Job

-- which line may stand behind one of this kind
abbrev pub stands_behind : Last → Line → Bool
stands_behind last.Start line = is_flow_line line
stands_behind last.Flow line = is_graph_line line
stands_behind last.Graph line = is_input_line line
stands_behind last.Input line = goes_on line
stands_behind last.Node line = goes_on line
stands_behind last.Sparse line = is_row_line line
stands_behind last.Row line = is_row_line line || goes_on line
stands_behind last.Output line = is_graph_line line || is_job_line line
stands_behind last.Job line = is_job_line line

-- the graph has its output
abbrev pub is_ended : Last → Bool
is_ended last.Output = true
is_ended last.Job = true
is_ended _ = false

-- a line of the job stood last
abbrev pub is_asked : Last → Bool
is_asked last.Job = true
is_asked _ = false

-- the graph has its name
abbrev pub has_name : Last → Bool
has_name last.Start = false
has_name last.Flow = false
has_name last.Graph = true
has_name last.Input = true
has_name last.Node = true
has_name last.Sparse = true
has_name last.Row = true
has_name last.Output = true
has_name last.Job = true

-- the graph has its variables
abbrev pub has_input : Last → Bool
has_input last.Start = false
has_input last.Flow = false
has_input last.Graph = false
has_input last.Input = true
has_input last.Node = true
has_input last.Sparse = true
has_input last.Row = true
has_input last.Output = true
has_input last.Job = true

-- 1 to 8 distinct names of at most 32 bytes
pub record AreVariables (names : List (List ℕ)) : Type 0 where
  pub some : 1 ≤ length names
  pub few : length names ≤ 8
  pub are_names : AreNames names

-- each name stands at one place
abbrev pub AreDistinct : List (List ℕ) → Type 0
AreDistinct names = (i j : ℕ) (name : List ℕ) → slice_get names i ≡ Some name → slice_get names j ≡ Some name → i ≡ j

-- a row may stand next
abbrev pub has_rows : Last → Bool
has_rows last.Sparse = true
has_rows last.Row = true
has_rows _ = false

-- what a node computes may be sound, with rows that are few where it is sparse
abbrev pub IsBegun : ℕ → ℕ → NodeKind → Type 0
IsBegun variables number (node.Sparse from unknowns want rows) = (unknowns ≤ 4096) × ((given : List SparseRow) → AreFewRows unknowns given → IsSparse number from unknowns want given)
IsBegun variables number kind = IsKind variables number kind

-- the rows are few, and there are some, where it is sparse
abbrev pub HasRows : NodeKind → Type 0
HasRows (node.Sparse from unknowns want rows) = AreFewRows unknowns rows
HasRows kind = Unit {0}

-- it is sparse, with this many unknowns and entries so far
abbrev pub IsOpen : ℕ → ℕ → NodeKind → Type 0
IsOpen unknowns entries (node.Sparse from own want rows) = (own ≡ unknowns) × (entries_of rows ≡ entries) × (rows ≢ [] → AreFewRows own rows)
IsOpen unknowns entries kind = ⊥

-- it has no rows yet, where it is sparse
abbrev pub HasNoRows : NodeKind → Type 0
HasNoRows (node.Sparse from unknowns want rows) = rows ≡ []
HasNoRows kind = Unit {0}

-- the kind of a node's line
abbrev pub kind_stood : NodeKind → Last
kind_stood (node.Sparse from unknowns want rows) = last.Sparse
kind_stood kind = last.Node

-- the unknowns of a sparse node
abbrev pub kind_unknowns : NodeKind → ℕ
kind_unknowns (node.Sparse from unknowns want rows) = unknowns
kind_unknowns kind = 0

-- the node with this number, counted from 0, has a name, and what it computes may be sound
pub record IsBegunNode (variables number : ℕ) (node : Node) : Type 0 where
  pub named : IsTrue (is_name node.name)
  pub short : length node.name ≤ 32
  pub no_input : node.name ≢ codes "input"
  pub kind : IsBegun variables number node.kind

-- what is kept fits together, and is what a job may have
pub record IsSound (stood : Last) (name : Option (List ℕ)) (variables : Names) (names : List (List ℕ)) (nodes : List Node) (unknowns entries : ℕ) (output : Option Source) (points : List (List ℕ)) : Type 0 where
  pub has_graph : has_name stood ≡ true → name ≢ None
  pub no_graph : has_name stood ≡ false → name ≡ None
  pub named : (given : List ℕ) → name ≡ Some given → IsTrue (is_name given) × (length given ≤ 32)
  pub inputs : has_input stood ≡ true → AreVariables (variables_of variables)
  pub listed : variables ≡ Listed (variables_of variables)
  pub few : length (variables_of variables) ≤ 8
  pub ended : is_ended stood ≡ true → output ≢ None
  pub no_node : has_input stood ≡ false → nodes ≡ []
  pub no_point : is_asked stood ≡ false → points ≡ []
  pub names_are : names_of nodes ≡ names
  pub bounded : length nodes ≤ 4096
  pub begun : (k : ℕ) (node : Node) → slice_get nodes k ≡ Some node → IsBegunNode (length (variables_of variables)) k node
  pub filled : (k : ℕ) (node : Node) → slice_get nodes k ≡ Some node → (stood ≡ last.Sparse → k + 1 < length nodes) → HasRows node.kind
  pub some_node : has_rows stood ≡ true → nodes ≢ []
  pub opened : has_rows stood ≡ true → (front : List Node) (node : Node) → nodes ≡ front ++ node ∷ [] → IsOpen unknowns entries node.kind
  pub distinct : AreDistinct names
  pub output_is : (k : ℕ) → output ≡ Some (source.Node k) → k < length nodes
  pub few_unknowns : unknowns ≤ 4096
  pub few_entries : entries ≤ 65536
  pub few_points : length points ≤ 65536
  pub fitting : (k : ℕ) (point : List ℕ) → slice_get points k ≡ Some point → length point ≡ length (variables_of variables)
