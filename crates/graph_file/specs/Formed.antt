-- What holds of what a line says, because it fits its pattern.
use Rattle.std.specs.Prelude.{ℕ, ◌≡◌, ◌≤◌, ◌<◌, ◌-◌, ◌^◌, true, List, [], ◌∷◌, length}
use Rattle.std.specs.List.{list_all}
use Rattle.ratfun_text.specs.Bytes.{is_name}
use Rattle.graph_file.specs.declared.line.Line.{Line}
use Rattle.graph_file.specs.declared.line.Line.TheVariants.{Flow, Graph, Input, Node, Row, Output, Point, Bounds, Coeff}
use Rattle.graph_file.specs.declared.line.Statement.{Statement}
use Rattle.graph_file.specs.declared.line.Statement.TheVariants.{Eval, Take, Slice, Chain, Sum, Product, Matmul, Dense, Sparse, Call, Memo, Map, Laurent}
use Rattle.graph_file.specs.declared.line.Want.{Want}
use Rattle.graph_file.specs.declared.line.Want.TheVariants.{Every, Numbers}

-- something is wanted
abbrev pub IsWant : Want → Type 0
IsWant Every = Unit {0}
IsWant (Numbers numbers) = 1 ≤ length numbers

-- there is something in each list, and there are at most so many expressions
abbrev pub IsWhole : ℕ → Statement → Type 0
IsWhole most (Eval from texts) = (1 ≤ length texts) × (length texts ≤ most)
IsWhole most (Take parts) = 1 ≤ length parts
IsWhole most (Slice from first last) = Unit {0}
IsWhole most (Chain parts) = 1 ≤ length parts
IsWhole most (Sum parts) = 1 ≤ length parts
IsWhole most (Product parts) = 1 ≤ length parts
IsWhole most (Matmul left right rows mid cols) = Unit {0}
IsWhole most (Dense from rows unknowns want) = IsWant want
IsWhole most (Sparse from unknowns want) = IsWant want
IsWhole most (Call graph parts) = 1 ≤ length parts
IsWhole most (Memo graph parts) = 1 ≤ length parts
IsWhole most (Map graph parts) = 1 ≤ length parts
IsWhole most (Laurent graph expansion parts) = Unit {0}

-- the numbers ascend so far as they are below the greatest that is kept
abbrev pub Ascend : List ℕ → Type 0
Ascend [] = Unit {0}
Ascend (n ∷ []) = Unit {0}
Ascend (m ∷ n ∷ later) = (n < 2 ^ 32 - 1 → m < n) × Ascend (n ∷ later)

-- the names of graphs, variables and nodes are names
abbrev pub IsFormed : ℕ → Line → Type 0
IsFormed most (Flow version) = Unit {0}
IsFormed most (Graph name) = is_name name ≡ true
IsFormed most (Input names) = (list_all is_name names ≡ true) × (1 ≤ length names)
IsFormed most (Node name statement) = (is_name name ≡ true) × IsWhole most statement
IsFormed most (Row columns) = (1 ≤ length columns) × Ascend columns
IsFormed most (Output list) = Unit {0}
IsFormed most (Point entries) = Unit {0}
IsFormed most (Bounds outputs num den) = Unit {0}
IsFormed most (Coeff num den) = Unit {0}
