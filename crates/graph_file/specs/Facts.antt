-- What lines say of their graph and of the points. The lines stand in a list with the last one first, and those that are
-- passed over are left out.
use Rattle.std.specs.Prelude.{ℕ, ◌+◌, max, Bool, true, false, List, [], ◌∷◌, ◌++◌, length, position, Option, Some, None, option_and_then, unwrap_or, bytes_eq, slice_get}
use Rattle.graph_file.specs.declared.line.Line.{Line}
use Rattle.graph_file.specs.declared.line.Line.TheVariants.{Graph, Input, Node, Row, Output, Point, Bounds, Coeff}
use Rattle.graph_file.specs.declared.line.Statement.{Statement}
use Rattle.graph_file.specs.declared.line.Statement.TheVariants.{Sparse, Call, Memo, Map, Laurent}

-- the names of the graphs, in the order of the file
abbrev pub graph_names_in : List Line → List (List ℕ)
graph_names_in [] = []
graph_names_in (Graph name ∷ before) = graph_names_in before ++ name ∷ []
graph_names_in (_ ∷ before) = graph_names_in before

-- the names of the graphs before the last one
abbrev pub earlier_names_in : List Line → List (List ℕ)
earlier_names_in [] = []
earlier_names_in (Graph name ∷ before) = graph_names_in before
earlier_names_in (_ ∷ before) = earlier_names_in before

-- the graph that a node calls, by its name
abbrev pub called_by : Statement → Option (List ℕ)
called_by (Call graph parts) = Some graph
called_by (Memo graph parts) = Some graph
called_by (Map graph parts) = Some graph
called_by (Laurent graph expansion parts) = Some graph
called_by _ = None

-- the number of the graph with this name, counted from 0
abbrev pub graph_named : List (List ℕ) → List ℕ → Option ℕ
graph_named graphs graph = position (λ other. bytes_eq other graph) graphs

-- the depth of calls to which a node brings its graph, where the graphs before it have these names and depths: 1, or 1 more
-- than that of the graph that it calls
abbrev pub depth_over : List (List ℕ) → List ℕ → Option (List ℕ) → ℕ
depth_over graphs depths None = 1
depth_over graphs depths (Some graph) = unwrap_or (option_and_then (slice_get depths) (graph_named graphs graph)) 0 + 1

-- the last of the depths, raised to this where it is less
abbrev pub last_raised : ℕ → List ℕ → List ℕ
last_raised depth [] = []
last_raised depth (last ∷ []) = max last depth ∷ []
last_raised depth (first ∷ next ∷ later) = first ∷ last_raised depth (next ∷ later)

-- the depths of calls of the graphs, in the order of the file; a graph without calls has depth 1
abbrev pub depths_in : List Line → List ℕ
depths_in [] = []
depths_in (Graph name ∷ before) = depths_in before ++ 1 ∷ []
depths_in (Node name statement ∷ before) = last_raised (depth_over (earlier_names_in before) (depths_in before) (called_by statement)) (depths_in before)
depths_in (_ ∷ before) = depths_in before

-- the variables of the graph whose `graph` line stood last
abbrev pub variables_in : List Line → List (List ℕ)
variables_in [] = []
variables_in (Graph name ∷ before) = []
variables_in (Input names ∷ before) = names
variables_in (_ ∷ before) = variables_in before

-- the names of its nodes, in the order of the file
abbrev pub node_names_in : List Line → List (List ℕ)
node_names_in [] = []
node_names_in (Graph name ∷ before) = []
node_names_in (Node name statement ∷ before) = node_names_in before ++ name ∷ []
node_names_in (_ ∷ before) = node_names_in before

-- the unknowns of a sparse node
abbrev pub unknowns_of : Statement → ℕ
unknowns_of (Sparse from unknowns want) = unknowns
unknowns_of _ = 0

-- the unknowns of the graph's last node, where that is sparse
abbrev pub unknowns_in : List Line → ℕ
unknowns_in [] = 0
unknowns_in (Graph name ∷ before) = 0
unknowns_in (Node name statement ∷ before) = unknowns_of statement
unknowns_in (_ ∷ before) = unknowns_in before

-- how many entries the rows of the graph's last node have so far
abbrev pub entries_in : List Line → ℕ
entries_in [] = 0
entries_in (Graph name ∷ before) = 0
entries_in (Node name statement ∷ before) = 0
entries_in (Row columns ∷ before) = entries_in before + length columns
entries_in (_ ∷ before) = entries_in before

-- the points, in the order of the file
abbrev pub points_in : List Line → List (List ℕ)
points_in [] = []
points_in (Point entries ∷ before) = points_in before ++ entries ∷ []
points_in (_ ∷ before) = points_in before

-- a line of the job
abbrev pub is_job_line : Line → Bool
is_job_line (Point entries) = true
is_job_line (Bounds outputs num den) = true
is_job_line (Coeff num den) = true
is_job_line _ = false

-- the line that stood last is the last graph's `output`, or a line of the job
abbrev pub has_output : List Line → Bool
has_output [] = false
has_output (Output list ∷ before) = true
has_output (line ∷ before) = is_job_line line
