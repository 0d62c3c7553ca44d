-- Systems of linear equations: the rows of a dense one in a list, and the words that systems want.
use Rattle.std.specs.Prelude.{◌≡◌, ℕ, zero, suc, ◌+◌, ◌*◌, ◌≤◌, max, if◌then◌else◌, ⊤, IsTrue, List, [], ◌∷◌, take, drop, slice_get, Some}
use Rattle.elim_core.specs.Sparse.{entries_of}
use Rattle.graph_file.specs.declared.graph.Graph.{Graph}
use Rattle.graph_file.specs.declared.graph.Node.{Node}
use Rattle.graph_file.specs.declared.graph.NodeKind.{NodeKind}
use Rattle.graph_file.specs.declared.graph.NodeKind.TheVariants.{Dense, Sparse, Laurent}
use Rattle.graph_eval.specs.Expanded.{IsWindow, window_of}

-- the first so many rows of a list, row by row: each has an entry for each unknown, and then its right side
abbrev pub rows_in : ℕ → ℕ → List ℕ → List (List ℕ)
rows_in zero unknowns list = []
rows_in (suc rows) unknowns list = take (unknowns + 1) list ∷ rows_in rows unknowns (drop (unknowns + 1) list)

-- how many words a node of this kind wants for its work beside its list, by kind
abbrev pub words_of : NodeKind → ℕ
words_of (Dense from rows unknowns want) = (unknowns + 4) * (unknowns + 2)
words_of (Sparse from unknowns want rows) = (unknowns + 4) * (unknowns + 2)
words_of kind = 0

-- a node of this kind solves no system of more than 4096 unknowns
abbrev pub HasFewUnknowns : NodeKind → Type 0
HasFewUnknowns (Dense from rows unknowns want) = unknowns ≤ 4096
HasFewUnknowns (Sparse from unknowns want rows) = unknowns ≤ 4096
HasFewUnknowns kind = ⊤

-- the rows of a sparse system have few values together
abbrev pub HasFewEntries : NodeKind → Type 0
HasFewEntries (Sparse from unknowns want rows) = entries_of rows ≤ 65536
HasFewEntries kind = ⊤

-- the degrees and the orders of an expansion are small
abbrev pub HasWindow : NodeKind → Type 0
HasWindow (Laurent graph lo hi num den parts) = IsWindow (window_of lo hi num den)
HasWindow kind = ⊤

-- how many words a node wants for its work beside its list, 0 where it isn't needed
abbrev pub work_of : Node → ℕ
work_of node = if node.needed then words_of node.kind else 0

-- the most that one of these nodes wants
abbrev pub greatest_work : List Node → ℕ
greatest_work [] = 0
greatest_work (node ∷ nodes) = max (work_of node) (greatest_work nodes)

-- so many words are enough for each system that is solved among these nodes
pub record AreEnough (nodes : List Node) (words : ℕ) : Type 0 where
  pub each : (n : ℕ) (node : Node) → slice_get nodes n ≡ Some node → IsTrue node.needed → words_of node.kind ≤ words

-- so many words are enough for each system that is solved in these graphs
pub record AreEnoughFor (graphs : List Graph) (words : ℕ) : Type 0 where
  pub graph : (k : ℕ) (graph : Graph) → slice_get graphs k ≡ Some graph → AreEnough graph.nodes words
