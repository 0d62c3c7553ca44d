-- What may be wrong with a line, given what the lines before it say. Earlier lines stand in a list with the last one
-- first, and those that are passed over are left out.
use Rattle.std.specs.Prelude.{ℕ, pos, negsuc, int_le, ◌≡◌, ◌+◌, ◌*◌, ◌<◌, Bool, true, false, not, ◌&&◌, ◌||◌, ◌==◌, nat_le, nat_lt, if◌then◌else◌, List, [], ◌∷◌, ◌++◌, length, map, Option, Some, None, is_some, bytes_eq, codes, slice_get}
use Rattle.std.specs.List.{list_all, list_any}
use Rattle.ratfun_text.specs.Faults.{IsFaultless, IsFirst}
use Rattle.ratfun_text.specs.declared.names.Names.{Names}
use Rattle.ratfun_text.specs.declared.names.Names.TheVariants.{Listed, Numbered}
use Rattle.ratfun_text.specs.declared.parse.ExprError.{ExprError}
use Rattle.graph_file.specs.declared.error.FileKind.{FileKind}
use Rattle.graph_file.specs.declared.error.FileKind.TheVariants.{Syntax, Version, Repeated, UnknownGraph, UnknownNode, Residue, Limit, Expr}
use Rattle.graph_file.specs.declared.job.Special.{Special}
use Rattle.graph_file.specs.declared.line.Degrees.{Degrees}
use Rattle.graph_file.specs.declared.line.Expansion.{Expansion}
use Rattle.graph_file.specs.declared.line.Line.{Line}
use Rattle.graph_file.specs.declared.line.Line.TheVariants.{Flow, Graph, Input, Node, Row, Output, Point, Bounds, Coeff}
use Rattle.graph_file.specs.declared.line.Statement.{Statement}
use Rattle.graph_file.specs.declared.line.Statement.TheVariants.{Eval, Take, Slice, Chain, Sum, Product, Matmul, Dense, Sparse, Call, Memo, Map, Laurent}
use Rattle.graph_file.specs.declared.line.Want.{Want}
use Rattle.graph_file.specs.declared.line.Want.TheVariants.{Every, Numbers}
use Rattle.graph_file.specs.declared.line.Which.{Which}
use Rattle.graph_file.specs.declared.line.Which.TheVariants as which
use Rattle.poly_maps.specs.declared.bound.Bounds.{Bounds as BoundsOf}
use Rattle.rational_lift.specs.Joined.{both}
use Rattle.ray_grid.specs.Grid.{point_count}
use Rattle.ray_grid.specs.declared.grid.Grid.{Grid}
use Rattle.ray_grid.specs.Covering.{monomial_count}
use Rattle.graph_file.specs.Bounding.{all_in, bounds_given, bounds_said, coeff_in, grid_with, special_in, widest}
use Rattle.graph_file.specs.Facts.{called_by, depth_over, depths_in, earlier_names_in, entries_in, graph_names_in, is_job_line, node_names_in, points_in, unknowns_in, variables_in}
use Rattle.graph_file.specs.Line.{texts_in}

-- rows follow the line of a sparse node
abbrev pub takes_rows : Statement → Bool
takes_rows (Sparse from unknowns want) = true
takes_rows _ = false

abbrev pub is_flow_line : Line → Bool
is_flow_line (Flow version) = true
is_flow_line _ = false

abbrev pub is_graph_line : Line → Bool
is_graph_line (Graph name) = true
is_graph_line _ = false

abbrev pub is_input_line : Line → Bool
is_input_line (Input names) = true
is_input_line _ = false

-- one more node, or the output
abbrev pub goes_on : Line → Bool
goes_on (Node name statement) = true
goes_on (Output list) = true
goes_on _ = false

abbrev pub is_row_line : Line → Bool
is_row_line (Row columns) = true
is_row_line _ = false

-- which line may stand behind a line
abbrev pub may_follow : Line → Line → Bool
may_follow (Flow version) line = is_graph_line line
may_follow (Graph name) line = is_input_line line
may_follow (Input names) line = goes_on line
may_follow (Node name statement) line = if takes_rows statement then is_row_line line else goes_on line
may_follow (Row columns) line = is_row_line line || goes_on line
may_follow (Output list) line = is_graph_line line || is_job_line line
may_follow _ line = is_job_line line

-- which line may stand behind these: the first is `flow`, and each later one may follow the one before it
abbrev pub may_stand : List Line → Line → Bool
may_stand [] line = is_flow_line line
may_stand (last ∷ before) line = may_follow last line

-- there are no degrees in single variables, or one in each
abbrev pub are_degrees : ℕ → Degrees → Bool
are_degrees variables degrees = length degrees.each == 0 || length degrees.each == variables

-- a point has an entry for each variable, and where `bounds` gives degrees in single variables, one for each
abbrev pub fits : List Line → Line → Bool
fits earlier (Point entries) = length entries == length (variables_in earlier)
fits earlier (Bounds outputs num den) = are_degrees (length (variables_in earlier)) num && are_degrees (length (variables_in earlier)) den
fits earlier _ = true

-- the line may not stand there, or doesn't fit the variables
abbrev pub is_syntax : List Line → Line → Bool
is_syntax earlier line = not (may_stand earlier line) || not (fits earlier line)

-- the version isn't 1
abbrev pub is_version : Line → Bool
is_version (Flow version) = not (version == 1)
is_version _ = false

-- `input`, or the name of an earlier node
abbrev pub is_known : List (List ℕ) → List ℕ → Bool
is_known nodes name = bytes_eq name (codes "input") || list_any (λ other. bytes_eq other name) nodes

-- each of the names is none of those before it
abbrev pub are_new : List (List ℕ) → List (List ℕ) → Bool
are_new before [] = true
are_new before (name ∷ later) = not (list_any (λ other. bytes_eq other name) before) && are_new (before ++ name ∷ []) later

-- bounds for these outputs were given
abbrev pub is_given : Option BoundsOf → List Special → Which → Bool
is_given all special which.All = is_some all
is_given all special (which.Output output) = list_any (λ own. own.output == output) special

-- a graph has the name of an earlier one, a variable that of another of this line, or a node that of an earlier node of its
-- graph, or `input`; or bounds for the same outputs were given, or bounds for coefficients
abbrev pub is_repeated : List Line → Line → Bool
is_repeated earlier (Graph name) = list_any (λ other. bytes_eq other name) (graph_names_in earlier)
is_repeated earlier (Input names) = not (are_new [] names)
is_repeated earlier (Node name statement) = is_known (node_names_in earlier) name
is_repeated earlier (Bounds outputs num den) = is_given (all_in earlier) (special_in earlier) outputs
is_repeated earlier (Coeff num den) = is_some (coeff_in earlier)
is_repeated earlier _ = false

-- the lists that a node reads, by their names
abbrev pub lists_in : Statement → List (List ℕ)
lists_in (Eval from texts) = from ∷ []
lists_in (Take parts) = map (λ part. part.0) parts
lists_in (Slice from first last) = from ∷ []
lists_in (Chain parts) = parts
lists_in (Sum parts) = parts
lists_in (Product parts) = parts
lists_in (Matmul left right rows mid cols) = left ∷ right ∷ []
lists_in (Dense from rows unknowns want) = from ∷ []
lists_in (Sparse from unknowns want) = from ∷ []
lists_in (Call graph parts) = parts
lists_in (Memo graph parts) = parts
lists_in (Map graph parts) = parts
lists_in (Laurent graph expansion parts) = parts

-- none of these graphs has the name
abbrev pub is_not_among : List (List ℕ) → Option (List ℕ) → Bool
is_not_among graphs None = false
is_not_among graphs (Some graph) = not (list_any (λ other. bytes_eq other graph) graphs)

-- the graph that a node calls isn't an earlier one
abbrev pub is_unknown_graph : List Line → Line → Bool
is_unknown_graph earlier (Node name statement) = is_not_among (earlier_names_in earlier) (called_by statement)
is_unknown_graph earlier _ = false

-- a list is neither `input` nor an earlier node's
abbrev pub is_unknown_node : List Line → Line → Bool
is_unknown_node earlier (Node name statement) = not (list_all (is_known (node_names_in earlier)) (lists_in statement))
is_unknown_node earlier (Output list) = not (is_known (node_names_in earlier) list)
is_unknown_node earlier _ = false

abbrev pub is_entry : ℕ → Bool
is_entry entry = nat_lt entry 2305843009213693951

-- an entry of a point is 2^61 - 1 or more
abbrev pub is_residue : Line → Bool
is_residue (Point entries) = not (list_all is_entry entries)
is_residue _ = false

-- a position in a list, or a number of rows or columns
abbrev pub is_position : ℕ → Bool
is_position n = nat_le 1 n && nat_le n 262144

-- at most 262144 entries
abbrev pub are_sides : ℕ → ℕ → Bool
are_sides rows cols = nat_le (rows * cols) 262144

abbrev pub is_range : ℕ → ℕ → Bool
is_range first last = is_position first && is_position last && nat_le first last

abbrev pub is_product : ℕ → ℕ → ℕ → Bool
is_product rows mid cols = is_position rows && is_position mid && is_position cols && are_sides rows cols && are_sides rows mid && are_sides mid cols

-- a number that counts from 1
abbrev pub is_counted : ℕ → ℕ → Bool
is_counted number most = nat_le 1 number && nat_le number most

-- each wanted number is that of an unknown
abbrev pub is_want : ℕ → Want → Bool
is_want unknowns Every = true
is_want unknowns (Numbers numbers) = list_all (λ number. is_counted number unknowns) numbers

-- at most 512 equations in at most 511 unknowns
abbrev pub is_system : ℕ → ℕ → Want → Bool
is_system rows unknowns want = is_counted rows 512 && is_counted unknowns 511 && is_want unknowns want

-- at most 4096 unknowns
abbrev pub is_sparse : ℕ → Want → Bool
is_sparse unknowns want = is_counted unknowns 4096 && is_want unknowns want

-- orders from -64 to 64, the lowest at most the highest, and degrees of at most 64
abbrev pub is_expansion : Expansion → Bool
is_expansion expansion = int_le (negsuc 63) expansion.lo && int_le expansion.lo expansion.hi && int_le expansion.hi (pos 64) && nat_le expansion.num 64 && nat_le expansion.den 64

-- the numbers of a node are in their ranges
abbrev pub is_in_range : Statement → Bool
is_in_range (Take parts) = list_all (λ part. is_position part.1) parts
is_in_range (Slice from first last) = is_range first last
is_in_range (Matmul left right rows mid cols) = is_product rows mid cols
is_in_range (Dense from rows unknowns want) = is_system rows unknowns want
is_in_range (Sparse from unknowns want) = is_sparse unknowns want
is_in_range (Laurent graph expansion parts) = is_expansion expansion
is_in_range _ = true

-- the calls of graphs go at most 8 deep with this node
abbrev pub is_shallow : List Line → Statement → Bool
is_shallow earlier statement = nat_le (depth_over (earlier_names_in earlier) (depths_in earlier) (called_by statement)) 8

-- a name that a line gives has at most 32 bytes
abbrev pub is_short : List ℕ → Bool
is_short name = nat_le (length name) 32

-- each column of a row is 0 or the number of an unknown
abbrev pub are_columns : ℕ → List ℕ → Bool
are_columns unknowns columns = list_all (λ column. nat_le column unknowns) columns

-- the outputs of a `bounds` line are there
abbrev pub is_which : Which → Bool
is_which which.All = true
is_which (which.Output output) = is_position output

-- a total degree of at most 64
abbrev pub is_low : Degrees → Bool
is_low degrees = nat_le degrees.total 64

-- the numbers of a `bounds` line are in their ranges
abbrev pub are_numbers : Which → Degrees → Degrees → Bool
are_numbers outputs num den = is_which outputs && is_low num && is_low den

-- numerator and denominator have at most 1024 monomials together
abbrev pub has_few : ℕ → BoundsOf → Bool
has_few variables bounds = nat_le (monomial_count bounds.num variables + monomial_count bounds.den variables) 1024

-- the grid has at most 65536 points
abbrev pub is_small : Grid → Bool
is_small grid = nat_le (point_count grid) 65536

-- the grid of all bounds that lines give
abbrev pub grid_in : List Line → Grid
grid_in lines = grid_with (length (variables_in lines)) (widest (bounds_given (all_in lines) (special_in lines)))

-- the numbers of a `bounds` line are in their ranges, and so are the monomials of its bounds and the grid of the lines so far
abbrev pub are_bounds : List Line → Which → Degrees → Degrees → Bool
are_bounds earlier outputs num den = are_numbers outputs num den && has_few (length (variables_in earlier)) (bounds_said (length (variables_in earlier)) num den) && is_small (grid_in (Bounds outputs num den ∷ earlier))

-- coefficients with these bounds are told by their residues at both moduli
abbrev pub is_coeff : ℕ → ℕ → Bool
is_coeff num den = nat_le 1 num && nat_le 1 den && nat_lt (2 * (num * den)) both

-- a name is too long, a number out of its range, calls go deeper than 8, or there are more than 64 graphs, 8 variables, 4096 nodes, 65536
-- entries of a sparse node, 65536 points, 1024 monomials of one output's bounds or 65536 points of the grid
abbrev pub is_limit : List Line → Line → Bool
is_limit earlier (Graph name) = not (is_short name && nat_lt (length (graph_names_in earlier)) 64)
is_limit earlier (Input names) = not (list_all is_short names && nat_le (length names) 8)
is_limit earlier (Node name statement) = not (is_short name && nat_lt (length (node_names_in earlier)) 4096 && is_in_range statement && is_shallow earlier statement)
is_limit earlier (Row columns) = not (are_columns (unknowns_in earlier) columns && nat_le (entries_in earlier + length columns) 65536)
is_limit earlier (Point entries) = not (nat_lt (length (points_in earlier)) 65536)
is_limit earlier (Bounds outputs num den) = not (are_bounds earlier outputs num den)
is_limit earlier (Coeff num den) = not (is_coeff num den)
is_limit earlier _ = false

-- the first of these that is wrong with the line, where the lines before it are these
abbrev pub fault_after : List Line → Line → Option FileKind
fault_after earlier line =
    if is_syntax earlier line then Some Syntax else
    if is_version line then Some Version else
    if is_repeated earlier line then Some Repeated else
    if is_unknown_graph earlier line then Some UnknownGraph else
    if is_unknown_node earlier line then Some UnknownNode else
    if is_residue line then Some Residue else
    if is_limit earlier line then Some Limit else None

-- what is wrong with what a line says, its expressions apart; a line that says nothing is Syntax
abbrev pub fault : List Line → Option Line → Option FileKind
fault earlier None = Some Syntax
fault earlier (Some line) = fault_after earlier line

-- the names that the expressions over a list may use: the variables over the input, and `z1`, `z2` and so on over a node
abbrev pub names_over : Names → List ℕ → Names
names_over variables list = if bytes_eq list (codes "input") then variables else Numbered

-- the names that the expressions of a node may use
abbrev pub names_for : Names → Statement → Names
names_for variables (Eval from texts) = names_over variables from
names_for variables _ = Numbered

-- the names that the expressions of a line may use
abbrev pub names_in : Names → Line → Names
names_in variables (Node name statement) = names_for variables statement
names_in variables _ = Numbered

-- the expression with this number, counted from 1, is the first that is refused, and this is why
pub record IsRefused (names : Names) (texts : List (List ℕ)) (number : ℕ) (error : ExprError) : Type 0 where
  pub place : ℕ
  pub counted : number ≡ place + 1
  pub text : List ℕ
  pub there : slice_get texts place ≡ Some text
  pub first : IsFirst names text error.place error.kind
  pub before : (k : ℕ) (earlier : List ℕ) → k < place → slice_get texts k ≡ Some earlier → IsFaultless names earlier

-- no expression is refused
abbrev pub AreFaultless : Names → List (List ℕ) → Type 0
AreFaultless names texts = (k : ℕ) (text : List ℕ) → slice_get texts k ≡ Some text → IsFaultless names text

-- an expression of what the line says is refused, the first of them so
abbrev pub HasRefusal : List Line → Option Line → ℕ → ExprError → Type 0
HasRefusal earlier None number error = ⊥
HasRefusal earlier (Some line) number error = IsRefused (names_in (Listed (variables_in earlier)) line) (texts_in line) number error

-- no expression of what the line says is refused
abbrev pub HasNoRefusal : List Line → Option Line → Type 0
HasNoRefusal earlier None = Unit {0}
HasNoRefusal earlier (Some line) = AreFaultless (names_in (Listed (variables_in earlier)) line) (texts_in line)

-- what is told of a line that says this
abbrev pub IsBadLine : List Line → Option Line → FileKind → Type 0
IsBadLine earlier said (Expr number error) = (fault earlier said ≡ None) × HasRefusal earlier said number error
IsBadLine earlier said kind = fault earlier said ≡ Some kind

-- nothing is wrong with a line that says this
abbrev pub IsGoodLine : List Line → Option Line → Type 0
IsGoodLine earlier said = (fault earlier said ≡ None) × HasNoRefusal earlier said
