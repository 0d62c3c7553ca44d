-- What the words of a line say: a pattern for each kind of line. A line that fits no pattern says nothing.
use Rattle.std.specs.Prelude.{ℕ, ℤ, pos, neg_ℤ, ◌+◌, ◌-◌, ◌^◌, min, ◌==◌, Bool, true, false, ◌&&◌, nat_lt, if◌then◌else◌, List, [], ◌∷◌, map, take, drop, Option, Some, None, option_and_then, option_map, bytes_eq, codes}
use Rattle.std.specs.List.{slice_split, list_all, position_or_len}
use Rattle.ratfun_text.specs.Bytes.{is_name, number_of}
use Rattle.graph_file.specs.Lines.{is_plain, words, after_words}
use Rattle.graph_file.specs.declared.line.Degrees.{Degrees}
use Rattle.graph_file.specs.declared.line.Expansion.{Expansion}
use Rattle.graph_file.specs.declared.line.Line.{Line}
use Rattle.graph_file.specs.declared.line.Line.TheVariants.{Flow, Graph, Input, Node, Row, Output, Point, Bounds, Coeff}
use Rattle.graph_file.specs.declared.line.Statement.{Statement}
use Rattle.graph_file.specs.declared.line.Statement.TheVariants.{Eval, Take, Slice, Chain, Sum, Product, Matmul, Dense, Sparse, Call, Memo, Map, Laurent}
use Rattle.graph_file.specs.declared.line.Which.{Which}
use Rattle.graph_file.specs.declared.line.Which.TheVariants as which
use Rattle.graph_file.specs.declared.line.Want.{Want}
use Rattle.graph_file.specs.declared.line.Want.TheVariants.{Every, Numbers}

-- all of the answers, where each is there
abbrev pub all_of : {A : Type 0} → List (Option A) → Option (List A)
all_of [] = Some []
all_of (None ∷ later) = None
all_of (Some answer ∷ later) = option_map (λ answers. answer ∷ answers) (all_of later)

-- an entry of a point or a version: 2^64 - 1 stands for every greater number too
abbrev pub entry_of : List ℕ → Option ℕ
entry_of word = option_map (λ n. min n (2 ^ 64 - 1)) (number_of word)

-- a position, a number of rows, columns or unknowns, or the number of an unknown: 2^32 - 1 stands for every greater number too
abbrev pub size_of : List ℕ → Option ℕ
size_of word = option_map (λ n. min n (2 ^ 32 - 1)) (number_of word)

-- `flow NUM`, of which these are the words behind `flow`; likewise for the other patterns
abbrev pub flow_line : List (List ℕ) → Option Line
flow_line (version ∷ []) = option_map Flow (entry_of version)
flow_line _ = None

-- `graph NAME`
abbrev pub graph_line : List (List ℕ) → Option Line
graph_line (name ∷ []) = if is_name name then Some (Graph name) else None
graph_line _ = None

-- `input NAME ..`
abbrev pub input_line : List (List ℕ) → Option Line
input_line [] = None
input_line (name ∷ names) = if list_all is_name (name ∷ names) then Some (Input (name ∷ names)) else None

-- `output LIST`
abbrev pub output_line : List (List ℕ) → Option Line
output_line (list ∷ []) = Some (Output list)
output_line _ = None

-- `point NUM ..`
abbrev pub point_line : List (List ℕ) → Option Line
point_line [] = None
point_line (entry ∷ entries) = option_map Point (all_of (map entry_of (entry ∷ entries)))

-- a bound for numerators or denominators: 2^128 - 1 stands for every greater number too
abbrev pub wide_of : List ℕ → Option ℕ
wide_of word = option_map (λ n. min n (2 ^ 128 - 1)) (number_of word)

abbrev pub coeff_from : Option ℕ → Option ℕ → Option Line
coeff_from num den = option_and_then (λ num. option_map (λ den. Coeff num den) den) num

-- `coeff NUM NUM`
abbrev pub coeff_line : List (List ℕ) → Option Line
coeff_line (num ∷ den ∷ []) = coeff_from (wide_of num) (wide_of den)
coeff_line _ = None

-- the outputs that a `bounds` line names: `all`, or the number of one
abbrev pub which_of : List ℕ → Option Which
which_of word = if bytes_eq word (codes "all") then Some which.All else option_map which.Output (size_of word)

abbrev pub degrees_from : Option ℕ → Option (List ℕ) → Option Degrees
degrees_from total each = option_and_then (λ total. option_map (λ each. record { total = total; each = each }) each) total

-- `NUM ..`: a total degree and then the degrees in single variables
abbrev pub degrees_of : List (List ℕ) → Option Degrees
degrees_of [] = None
degrees_of (total ∷ each) = degrees_from (size_of total) (all_of (map size_of each))

abbrev pub degrees_pair : Option Degrees → Option Degrees → Option (Degrees × Degrees)
degrees_pair num den = option_and_then (λ num. option_map (λ den. (num, den)) den) num

-- where the word `den` stands first
abbrev pub den_place : List (List ℕ) → ℕ
den_place words = position_or_len (λ word. bytes_eq word (codes "den")) words

-- `NUM .. den NUM ..`
unfoldable pub both_degrees : List (List ℕ) → Option (Degrees × Degrees)
both_degrees words = degrees_pair (degrees_of (take (den_place words) words)) (degrees_of (drop (den_place words + 1) words))

abbrev pub bounds_from : Option Which → Option (Degrees × Degrees) → Option Line
bounds_from outputs degrees = option_and_then (λ outputs. option_map (λ degrees. Bounds outputs degrees.0 degrees.1) degrees) outputs

-- `bounds WHICH num NUM .. den NUM ..`
abbrev pub bounds_line : List (List ℕ) → Option Line
bounds_line (outputs ∷ num ∷ later) = if bytes_eq num (codes "num") then bounds_from (which_of outputs) (both_degrees later) else None
bounds_line _ = None

-- both are numbers, and the first is less
abbrev pub are_less : Option ℕ → Option ℕ → Bool
are_less (Some first) (Some second) = nat_lt first second
are_less _ _ = false

-- each of the words but the first writes a greater number than the word before it
abbrev pub are_ascending : List (List ℕ) → Bool
are_ascending [] = true
are_ascending (word ∷ []) = true
are_ascending (word ∷ next ∷ later) = are_less (number_of word) (number_of next) && are_ascending (next ∷ later)

-- `row NUM ..`, the numbers ascending
abbrev pub row_line : List (List ℕ) → Option Line
row_line [] = None
row_line (column ∷ columns) = if are_ascending (column ∷ columns) then option_map Row (all_of (map size_of (column ∷ columns))) else None

-- `eval LIST = EXPR ; ..`: the expressions are what follows the line's fifth word, `=`, cut at each `;`
abbrev pub eval_node : List ℕ → List (List ℕ) → Option Statement
eval_node line (from ∷ equals ∷ _) = if bytes_eq equals (codes "=") then Some (Eval from (slice_split (λ byte. byte == 59) (after_words 5 line))) else None
eval_node line _ = None

-- the pair in front of others, where all are there
abbrev pub part_before : List ℕ → Option (List (List ℕ × ℕ)) → ℕ → Option (List (List ℕ × ℕ))
part_before list parts position = option_map (λ parts. (list, position) ∷ parts) parts

-- a list and a position, again and again
abbrev pub parts_of : List (List ℕ) → Option (List (List ℕ × ℕ))
parts_of [] = Some []
parts_of (list ∷ []) = None
parts_of (list ∷ position ∷ later) = option_and_then (part_before list (parts_of later)) (size_of position)

-- `take LIST NUM ..`
abbrev pub take_node : List (List ℕ) → Option Statement
take_node [] = None
take_node (list ∷ later) = option_map Take (parts_of (list ∷ later))

abbrev pub slice_from : List ℕ → Option ℕ → Option ℕ → Option Statement
slice_from from first last = option_and_then (λ first. option_map (λ last. Slice from first last) last) first

-- `slice LIST NUM NUM`
abbrev pub slice_node : List (List ℕ) → Option Statement
slice_node (from ∷ first ∷ last ∷ []) = slice_from from (size_of first) (size_of last)
slice_node _ = None

-- `chain LIST ..`
abbrev pub chain_node : List (List ℕ) → Option Statement
chain_node [] = None
chain_node (list ∷ lists) = Some (Chain (list ∷ lists))

-- `sum LIST ..`
abbrev pub sum_node : List (List ℕ) → Option Statement
sum_node [] = None
sum_node (list ∷ lists) = Some (Sum (list ∷ lists))

-- `product LIST ..`
abbrev pub product_node : List (List ℕ) → Option Statement
product_node [] = None
product_node (list ∷ lists) = Some (Product (list ∷ lists))

abbrev pub sides_from : Option ℕ → Option ℕ → Option ℕ → Option (ℕ × ℕ × ℕ)
sides_from rows mid cols = option_and_then (λ rows. option_and_then (λ mid. option_map (λ cols. (rows, mid, cols)) cols) mid) rows

-- the rows, middle and columns of a product
abbrev pub sides_of : List (List ℕ) → Option (ℕ × ℕ × ℕ)
sides_of (rows ∷ mid ∷ cols ∷ []) = sides_from (size_of rows) (size_of mid) (size_of cols)
sides_of _ = None

-- `matmul LIST LIST NUM NUM NUM`
abbrev pub matmul_node : List (List ℕ) → Option Statement
matmul_node (left ∷ right ∷ sides) = option_map (λ sides. Matmul left right sides.0 sides.1 sides.2) (sides_of sides)
matmul_node _ = None

-- `want NUM ..`, of which these are the words behind `want`
abbrev pub numbers_wanted : List (List ℕ) → Option Want
numbers_wanted [] = None
numbers_wanted (number ∷ numbers) = option_map Numbers (all_of (map size_of (number ∷ numbers)))

-- the unknowns that are wanted: `want NUM ..`, or nothing for every unknown
abbrev pub want_of : List (List ℕ) → Option Want
want_of [] = Some Every
want_of (first ∷ later) = if bytes_eq first (codes "want") then numbers_wanted later else None

abbrev pub dense_from : List ℕ → Option ℕ → Option ℕ → Option Want → Option Statement
dense_from from rows unknowns want = option_and_then (λ rows. option_and_then (λ unknowns. option_map (λ want. Dense from rows unknowns want) want) unknowns) rows

-- `dense LIST NUM NUM`, and then nothing or `want NUM ..`
abbrev pub dense_node : List (List ℕ) → Option Statement
dense_node (from ∷ rows ∷ unknowns ∷ later) = dense_from from (size_of rows) (size_of unknowns) (want_of later)
dense_node _ = None

abbrev pub sparse_from : List ℕ → Option ℕ → Option Want → Option Statement
sparse_from from unknowns want = option_and_then (λ unknowns. option_map (λ want. Sparse from unknowns want) want) unknowns

-- `sparse LIST NUM`, and then nothing or `want NUM ..`
abbrev pub sparse_node : List (List ℕ) → Option Statement
sparse_node (from ∷ unknowns ∷ later) = sparse_from from (size_of unknowns) (want_of later)
sparse_node _ = None

-- `call GRAPH LIST ..`
abbrev pub call_node : List (List ℕ) → Option Statement
call_node (graph ∷ list ∷ lists) = Some (Call graph (list ∷ lists))
call_node _ = None

-- `memo GRAPH LIST ..`
abbrev pub memo_node : List (List ℕ) → Option Statement
memo_node (graph ∷ list ∷ lists) = Some (Memo graph (list ∷ lists))
memo_node _ = None

-- `map GRAPH LIST ..`
abbrev pub map_node : List (List ℕ) → Option Statement
map_node (graph ∷ list ∷ lists) = Some (Map graph (list ∷ lists))
map_node _ = None

-- the size of an order: 2^31 - 1 stands for every greater number too
abbrev pub order_size_of : List ℕ → Option ℕ
order_size_of word = option_map (λ n. min n (2 ^ 31 - 1)) (number_of word)

-- an order: a number, or `-` directly followed by one
abbrev pub order_of : List ℕ → Option ℤ
order_of [] = None
order_of (first ∷ later) = if first == 45 then option_map (λ n. neg_ℤ (pos n)) (order_size_of later) else option_map (λ n. pos n) (order_size_of (first ∷ later))

abbrev pub expansion_from : Option ℤ → Option ℤ → Option ℕ → Option ℕ → Option Expansion
expansion_from lo hi num den = option_and_then (λ lo. option_and_then (λ hi. option_and_then (λ num. option_map (λ den. record { lo = lo; hi = hi; num = num; den = den }) den) num) hi) lo

-- `laurent GRAPH INT INT NUM NUM`, and then nothing or `LIST ..`
abbrev pub laurent_node : List (List ℕ) → Option Statement
laurent_node (graph ∷ lo ∷ hi ∷ num ∷ den ∷ lists) = option_map (λ expansion. Laurent graph expansion lists) (expansion_from (order_of lo) (order_of hi) (size_of num) (size_of den))
laurent_node _ = None

-- what a `node` line says of its node, from the word for its kind on
abbrev pub statement_of : List ℕ → List ℕ → List (List ℕ) → Option Statement
statement_of line kind arguments =
    if bytes_eq kind (codes "eval") then eval_node line arguments else
    if bytes_eq kind (codes "take") then take_node arguments else
    if bytes_eq kind (codes "slice") then slice_node arguments else
    if bytes_eq kind (codes "chain") then chain_node arguments else
    if bytes_eq kind (codes "sum") then sum_node arguments else
    if bytes_eq kind (codes "product") then product_node arguments else
    if bytes_eq kind (codes "matmul") then matmul_node arguments else
    if bytes_eq kind (codes "dense") then dense_node arguments else
    if bytes_eq kind (codes "sparse") then sparse_node arguments else
    if bytes_eq kind (codes "call") then call_node arguments else
    if bytes_eq kind (codes "memo") then memo_node arguments else
    if bytes_eq kind (codes "map") then map_node arguments else
    if bytes_eq kind (codes "laurent") then laurent_node arguments else None

-- `node NAME KIND ..`
abbrev pub node_line : List ℕ → List (List ℕ) → Option Line
node_line line (name ∷ kind ∷ arguments) = if is_name name then option_map (Node name) (statement_of line kind arguments) else None
node_line line _ = None

-- what a line with these words says
abbrev pub line_of_words : List ℕ → List (List ℕ) → Option Line
line_of_words line [] = None
line_of_words line (first ∷ later) =
    if bytes_eq first (codes "flow") then flow_line later else
    if bytes_eq first (codes "graph") then graph_line later else
    if bytes_eq first (codes "input") then input_line later else
    if bytes_eq first (codes "node") then node_line line later else
    if bytes_eq first (codes "row") then row_line later else
    if bytes_eq first (codes "output") then output_line later else
    if bytes_eq first (codes "point") then point_line later else
    if bytes_eq first (codes "bounds") then bounds_line later else
    if bytes_eq first (codes "coeff") then coeff_line later else None

-- what a line says, if its bytes are allowed and it fits a pattern
abbrev pub line_of : List ℕ → Option Line
line_of line = if is_plain line then line_of_words line (words line) else None

-- the expressions of a node
abbrev pub texts_of : Statement → List (List ℕ)
texts_of (Eval from texts) = texts
texts_of _ = []

-- the expressions in a line
abbrev pub texts_in : Line → List (List ℕ)
texts_in (Node name statement) = texts_of statement
texts_in _ = []
