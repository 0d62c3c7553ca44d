-- The nodes on which a graph's output rests.
use Rattle.std.specs.Prelude.{ℕ, ◌≡◌, List, [], ◌∷◌, map, Some, slice_get}
use Rattle.graph_file.specs.declared.graph.Graph.{Graph}
use Rattle.graph_file.specs.declared.graph.Node.{Node}
use Rattle.graph_file.specs.declared.graph.NodeKind.{NodeKind}
use Rattle.graph_file.specs.declared.graph.NodeKind.TheVariants.{Eval, Take, Slice, Chain, Sum, Product, Matmul, Dense, Sparse, Call, Memo, Map, Laurent}
use Rattle.graph_file.specs.declared.graph.Source.{Source}
use Rattle.graph_file.specs.declared.graph.Source.TheVariants as source

abbrev pub one_source : Source → List Source
one_source from = from ∷ []

abbrev pub two_sources : Source → Source → List Source
two_sources left right = left ∷ right ∷ []

-- the lists that a node reads, in their order
abbrev pub sources_of : NodeKind → List Source
sources_of (Eval from exprs) = one_source from
sources_of (Take parts) = map (λ part. part.0) parts
sources_of (Slice from first last) = one_source from
sources_of (Chain parts) = parts
sources_of (Sum parts) = parts
sources_of (Product parts) = parts
sources_of (Matmul left right rows mid cols) = two_sources left right
sources_of (Dense from rows unknowns want) = one_source from
sources_of (Sparse from unknowns want rows) = one_source from
sources_of (Call graph parts) = parts
sources_of (Memo graph parts) = parts
sources_of (Map graph parts) = parts
sources_of (Laurent graph lo hi num den parts) = parts

-- the node names the list among those that it reads
abbrev pub Reads : NodeKind → Source → Type 0
Reads kind from = (i : ℕ) × (slice_get (sources_of kind) i ≡ Some from)

-- the output's node is needed, and each node that a needed node reads
pub data IsNeededFor (kinds : List NodeKind) (output : Source) : ℕ → Type 0 where
  Output : (k : ℕ) → output ≡ source.Node k → IsNeededFor kinds output k
  ReadBy : (k j : ℕ) (kind : NodeKind) → IsNeededFor kinds output j → slice_get kinds j ≡ Some kind → Reads kind (source.Node k) → IsNeededFor kinds output k

-- what the nodes compute
abbrev pub kinds_of : List Node → List NodeKind
kinds_of nodes = map (λ node. node.kind) nodes

-- the node with this number, counted from 0, is needed
abbrev pub IsNeeded : Graph → ℕ → Type 0
IsNeeded graph = IsNeededFor (kinds_of graph.nodes) graph.output
