-- What a file says, in which nothing is wrong.
use Rattle.std.specs.Prelude.{ℕ, ◌≡◌, ◌+◌, ◌↔◌, IsTrue, nat_le, if◌then◌else◌, List, [], ◌∷◌, ◌++◌, length, map, position, Option, Some, None, option_and_then, option_map, unwrap_or, bytes_eq, codes, slice_get}
use Rattle.std.specs.List.{AllZip, range_with_len}
use Rattle.elim_core.specs.declared.SparseRow.{SparseRow}
use Rattle.ratfun_text.specs.Grammar.{IsTreeOf}
use Rattle.ratfun_text.specs.declared.expr.Expr.{Expr}
use Rattle.ratfun_text.specs.declared.names.Names.{Names}
use Rattle.ratfun_text.specs.declared.names.Names.TheVariants.{Listed}
use Rattle.graph_file.specs.declared.graph.Graph.{Graph}
use Rattle.graph_file.specs.declared.graph.Node.{Node}
use Rattle.graph_file.specs.declared.graph.NodeKind.{NodeKind}
use Rattle.graph_file.specs.declared.graph.NodeKind.TheVariants as node
use Rattle.graph_file.specs.declared.graph.Source.{Source}
use Rattle.graph_file.specs.declared.graph.Source.TheVariants as source
use Rattle.graph_file.specs.declared.job.Job.{Job}
use Rattle.graph_file.specs.declared.job.Need.{Need}
use Rattle.graph_file.specs.declared.line.Expansion.{Expansion}
use Rattle.graph_file.specs.declared.line.Line.{Line}
use Rattle.graph_file.specs.declared.line.Line.TheVariants as line
use Rattle.graph_file.specs.declared.line.Statement.{Statement}
use Rattle.graph_file.specs.declared.line.Statement.TheVariants.{Eval, Take, Slice, Chain, Sum, Product, Matmul, Dense, Sparse, Call, Memo, Map, Laurent}
use Rattle.graph_file.specs.declared.line.Want.{Want}
use Rattle.graph_file.specs.declared.line.Want.TheVariants.{Every, Numbers}
use Rattle.poly_maps.specs.declared.bound.Bounds.{Bounds}
use Rattle.rational_lift.specs.declared.coeff.Coeff.{Coeff}
use Rattle.ray_grid.specs.declared.grid.Grid.{Grid}
use Rattle.graph_file.specs.declared.job.Special.{Special}
use Rattle.graph_file.specs.Bounded.{main_variables}
use Rattle.graph_file.specs.Bounding.{all_in, bounds_among, bounds_given, coeff_in, coeff_or, grid_with, no_bounds, special_in, widest}
use Rattle.graph_file.specs.Facts.{earlier_names_in, graph_named, graph_names_in, node_names_in, points_in, variables_in}
use Rattle.graph_file.specs.Faults.{names_in}
use Rattle.graph_file.specs.File.{said}
use Rattle.graph_file.specs.Line.{all_of, texts_in}
use Rattle.graph_file.specs.Lines.{lines}
use Rattle.graph_file.specs.Needed.{IsNeeded, kinds_of}

-- the list with this name: the graph's input, or the node at the name's place
abbrev pub source_named : List (List ℕ) → List ℕ → Option Source
source_named nodes list = if bytes_eq list (codes "input") then Some source.Input else option_map source.Node (position (λ other. bytes_eq other list) nodes)

-- a list and a position in it
abbrev pub part_named : List (List ℕ) → List ℕ × ℕ → Option (Source × ℕ)
part_named nodes part = option_map (λ list. (list, part.1)) (source_named nodes part.0)

-- the trees are those of the texts, each in its place
abbrev pub AreTrees : Names → List (List ℕ) → List Expr → Type 0
AreTrees names texts exprs = AllZip (IsTreeOf names) texts exprs

-- what a node computes by its kind, where the earlier nodes have these names and its expressions these trees
abbrev pub eval_of : List (List ℕ) → List ℕ → List Expr → Option NodeKind
eval_of nodes from exprs = option_map (λ from. node.Eval from exprs) (source_named nodes from)

abbrev pub take_of : List (List ℕ) → List (List ℕ × ℕ) → Option NodeKind
take_of nodes parts = option_map node.Take (all_of (map (part_named nodes) parts))

abbrev pub slice_of : List (List ℕ) → List ℕ → ℕ → ℕ → Option NodeKind
slice_of nodes from first last = option_map (λ from. node.Slice from first last) (source_named nodes from)

abbrev pub chain_of : List (List ℕ) → List (List ℕ) → Option NodeKind
chain_of nodes lists = option_map node.Chain (all_of (map (source_named nodes) lists))

abbrev pub sum_of : List (List ℕ) → List (List ℕ) → Option NodeKind
sum_of nodes lists = option_map node.Sum (all_of (map (source_named nodes) lists))

abbrev pub product_of : List (List ℕ) → List (List ℕ) → Option NodeKind
product_of nodes lists = option_map node.Product (all_of (map (source_named nodes) lists))

abbrev pub matmul_of : List (List ℕ) → List ℕ → List ℕ → ℕ → ℕ → ℕ → Option NodeKind
matmul_of nodes left right rows mid cols = option_and_then (λ left. option_map (λ right. node.Matmul left right rows mid cols) (source_named nodes right)) (source_named nodes left)

-- the numbers of the unknowns that are wanted
abbrev pub wanted : ℕ → Want → List ℕ
wanted unknowns Every = range_with_len 1 unknowns
wanted unknowns (Numbers numbers) = numbers

abbrev pub dense_of : List (List ℕ) → List ℕ → ℕ → ℕ → Want → Option NodeKind
dense_of nodes from rows unknowns want = option_map (λ from. node.Dense from rows unknowns (wanted unknowns want)) (source_named nodes from)

-- the rows of a sparse node stand in the lines behind its own
abbrev pub sparse_of : List (List ℕ) → List ℕ → ℕ → Want → Option NodeKind
sparse_of nodes from unknowns want = option_map (λ from. node.Sparse from unknowns (wanted unknowns want) []) (source_named nodes from)

-- the number of the graph with this name, and the lists
abbrev pub call_parts : List (List ℕ) → List (List ℕ) → List ℕ → List (List ℕ) → Option (ℕ × List Source)
call_parts graphs nodes graph lists = option_and_then (λ number. option_map (λ parts. (number, parts)) (all_of (map (source_named nodes) lists))) (graph_named graphs graph)

abbrev pub call_of : List (List ℕ) → List (List ℕ) → List ℕ → List (List ℕ) → Option NodeKind
call_of graphs nodes graph lists = option_map (λ call. node.Call call.0 call.1) (call_parts graphs nodes graph lists)

abbrev pub memo_of : List (List ℕ) → List (List ℕ) → List ℕ → List (List ℕ) → Option NodeKind
memo_of graphs nodes graph lists = option_map (λ call. node.Memo call.0 call.1) (call_parts graphs nodes graph lists)

abbrev pub map_of : List (List ℕ) → List (List ℕ) → List ℕ → List (List ℕ) → Option NodeKind
map_of graphs nodes graph lists = option_map (λ call. node.Map call.0 call.1) (call_parts graphs nodes graph lists)

abbrev pub laurent_of : List (List ℕ) → List (List ℕ) → List ℕ → Expansion → List (List ℕ) → Option NodeKind
laurent_of graphs nodes graph expansion lists = option_map (λ call. node.Laurent call.0 expansion.lo expansion.hi expansion.num expansion.den call.1) (call_parts graphs nodes graph lists)

-- what a node computes by its line, where the earlier graphs and the earlier nodes have these names and its expressions these trees
abbrev pub kind_of : List (List ℕ) → List (List ℕ) → List Expr → Statement → Option NodeKind
kind_of graphs nodes exprs (Eval from texts) = eval_of nodes from exprs
kind_of graphs nodes exprs (Take parts) = take_of nodes parts
kind_of graphs nodes exprs (Slice from first last) = slice_of nodes from first last
kind_of graphs nodes exprs (Chain lists) = chain_of nodes lists
kind_of graphs nodes exprs (Sum lists) = sum_of nodes lists
kind_of graphs nodes exprs (Product lists) = product_of nodes lists
kind_of graphs nodes exprs (Matmul left right rows mid cols) = matmul_of nodes left right rows mid cols
kind_of graphs nodes exprs (Dense from rows unknowns want) = dense_of nodes from rows unknowns want
kind_of graphs nodes exprs (Sparse from unknowns want) = sparse_of nodes from unknowns want
kind_of graphs nodes exprs (Call graph lists) = call_of graphs nodes graph lists
kind_of graphs nodes exprs (Memo graph lists) = memo_of graphs nodes graph lists
kind_of graphs nodes exprs (Map graph lists) = map_of graphs nodes graph lists
kind_of graphs nodes exprs (Laurent graph expansion lists) = laurent_of graphs nodes graph expansion lists

-- what the node of a line computes, where the lines before it are these
pub record IsKindOf (earlier : List Line) (name : List ℕ) (statement : Statement) (kind : NodeKind) : Type 0 where
  pub exprs : List Expr
  pub trees : AreTrees (names_in (Listed (variables_in earlier)) (line.Node name statement)) (texts_in (line.Node name statement)) exprs
  pub kind_is : kind_of (earlier_names_in earlier) (node_names_in earlier) exprs statement ≡ Some kind

-- a sparse node with one more row
abbrev pub with_row : SparseRow → NodeKind → NodeKind
with_row row (node.Sparse from unknowns want rows) = node.Sparse from unknowns want (rows ++ row ∷ [])
with_row row kind = kind

-- the last of the nodes with one more row
abbrev pub last_with_row : SparseRow → List NodeKind → List NodeKind
last_with_row row [] = []
last_with_row row (kind ∷ []) = with_row row kind ∷ []
last_with_row row (kind ∷ next ∷ later) = kind ∷ last_with_row row (next ∷ later)

-- what the nodes of the graph whose `graph` line stood last compute, in the order of the file
abbrev pub AreKinds : List Line → List NodeKind → Type 0
AreKinds [] kinds = kinds ≡ []
AreKinds (line.Graph name ∷ before) kinds = kinds ≡ []
AreKinds (line.Node name statement ∷ before) kinds = (front : List NodeKind) × ((kind : NodeKind) × ((kinds ≡ front ++ kind ∷ []) × AreKinds before front × IsKindOf before name statement kind))
AreKinds (line.Row columns ∷ before) kinds = (front : List NodeKind) × ((kinds ≡ last_with_row (record { columns = columns }) front) × AreKinds before front)
AreKinds (_ ∷ before) kinds = AreKinds before kinds

-- the graph's name
abbrev pub graph_name_in : List Line → Option (List ℕ)
graph_name_in [] = None
graph_name_in (line.Graph name ∷ before) = Some name
graph_name_in (_ ∷ before) = graph_name_in before

-- the list that is the graph's output
abbrev pub output_in : List Line → Option Source
output_in [] = None
output_in (line.Graph name ∷ before) = None
output_in (line.Output list ∷ before) = source_named (node_names_in before) list
output_in (_ ∷ before) = output_in before

-- the names of nodes
abbrev pub names_of : List Node → List (List ℕ)
names_of nodes = map (λ node. node.name) nodes

-- what lines say of the graph whose `graph` line stood last
pub record SaysGraph (all : List Line) (graph : Graph) : Type 0 where
  pub named : graph_name_in all ≡ Some graph.name
  pub inputs : graph.inputs ≡ variables_in all
  pub names : names_of graph.nodes ≡ node_names_in all
  pub kinds : AreKinds all (kinds_of graph.nodes)
  pub output_is : output_in all ≡ Some graph.output
  pub marks : (k : ℕ) (node : Node) → slice_get graph.nodes k ≡ Some node → IsTrue node.needed ↔ IsNeeded graph k

-- these lines up to the last one of the graph with this number, counted from 0
abbrev pub lines_through : ℕ → List Line → List Line
lines_through k [] = []
lines_through k (line ∷ before) = if nat_le (length (graph_names_in (line ∷ before))) (k + 1) then line ∷ before else lines_through k before

-- what a job says
pub record FileForm : Type 0 where
  pub graphs : List Graph
  pub points : List (List ℕ)
  pub all : Option Bounds
  pub special : List Special
  pub coeff : Coeff

abbrev pub form : Job → FileForm
form job = record { graphs = job.graphs; points = job.points; all = job.all; special = job.special; coeff = job.coeff }

-- the bounds of the output with this number, counted from 1
abbrev pub bounds_at : FileForm → ℕ → Bounds
bounds_at what output = bounds_among what.special (unwrap_or what.all no_bounds) output

-- the grid of degrees for all outputs
abbrev pub grid_of : FileForm → Grid
grid_of what = grid_with (main_variables what.graphs) (widest (bounds_given what.all what.special))

-- a file that is read for this says this
pub record Says (need : Need) (bytes : List ℕ) (what : FileForm) : Type 0 where
  pub counted : length what.graphs ≡ length (graph_names_in (said (lines bytes)))
  pub says_graph : (k : ℕ) (graph : Graph) → slice_get what.graphs k ≡ Some graph → SaysGraph (lines_through k (said (lines bytes))) graph
  pub points_are : what.points ≡ points_in (said (lines bytes))
  pub all_is : what.all ≡ all_in (said (lines bytes))
  pub special_are : what.special ≡ special_in (said (lines bytes))
  pub coeff_is : what.coeff ≡ coeff_or (coeff_in (said (lines bytes)))
