-- What is kept of lines is what they say.
use Rattle.std.specs.Prelude.{ℕ, ◌≡◌, ◌+◌, ◌-◌, ◌≤◌, true, List, [], ◌∷◌, length, take, slice_get, Option, Some, None, Result, Ok, Err, ⊤}
use Rattle.ratfun_text.specs.declared.names.Names.TheVariants.{Listed}
use Rattle.graph_file.specs.declared.error.FileError.{FileError}
use Rattle.graph_file.specs.declared.error.FileKind.{FileKind}
use Rattle.graph_file.specs.declared.error.FileKind.TheVariants as kind
use Rattle.graph_file.specs.declared.job.Need.{Need}
use Rattle.graph_file.specs.declared.graph.Graph.{Graph}
use Rattle.graph_file.specs.declared.line.Line.{Line}
use Rattle.graph_file.specs.declared.reader.Reader.{Reader}
use Rattle.graph_file.specs.Bounding.{all_in, bounds_given, coeff_in, special_in, widest}
use Rattle.graph_file.specs.Facts.{depths_in, entries_in, graph_names_in, node_names_in, points_in, unknowns_in, variables_in}
use Rattle.graph_file.specs.Faults.{IsBadLine, IsGoodLine, fault_after}
use Rattle.graph_file.specs.Reader.{AreDistinct, IsSound, last_of}
use Rattle.graph_file.specs.Formed.{IsFormed}
use Rattle.graph_file.specs.File.{IsBadAt, IsFirstBad, IsGoodAt, IsGoodFile, is_complete, said}
use Rattle.graph_file.specs.Lines.{lines}
use Rattle.graph_file.specs.Needed.{kinds_of}
use Rattle.graph_file.specs.Says.{AreKinds, SaysGraph, graph_name_in, lines_through, output_in}
use Rattle.graph_file.specs.Sound.{IsGraph}

-- what the reader keeps fits together
abbrev pub FitsTogether : Reader → Type 0
FitsTogether reader = IsSound reader.stood reader.name reader.variables reader.table reader.nodes.items reader.unknowns reader.entries reader.output reader.asked.points

-- these are sound graphs, as these lines say, the last of which stands first: the first of them, in the order of the file
pub record AreFirst (earlier : List Line) (graphs : List Graph) : Type 0 where
  pub said : (k : ℕ) (graph : Graph) → slice_get graphs k ≡ Some graph → SaysGraph (lines_through k earlier) graph
  pub sound : (k : ℕ) (graph : Graph) → slice_get graphs k ≡ Some graph → IsGraph graph
  pub named : (k : ℕ) (graph : Graph) → slice_get graphs k ≡ Some graph → slice_get (graph_names_in earlier) k ≡ Some graph.name

-- the graphs before the one in hand are these, and all graphs have these names
pub record AreBehind (earlier : List Line) (names : List (List ℕ)) (graphs : List Graph) : Type 0 where
  pub names_are : names ≡ graph_names_in earlier
  pub distinct : AreDistinct names
  pub few : length names ≤ 64
  pub counted : length graphs ≡ length names - 1
  pub first : AreFirst earlier graphs

-- all graphs of these lines are these
pub record AreAll (earlier : List Line) (graphs : List Graph) : Type 0 where
  pub counted : length graphs ≡ length (graph_names_in earlier)
  pub first : AreFirst earlier graphs

-- the depths of calls of the graphs of these lines are these, each at most 8
pub record AreDepths (earlier : List Line) (depths : List ℕ) : Type 0 where
  pub are : depths ≡ depths_in earlier
  pub low : (k : ℕ) (depth : ℕ) → slice_get depths k ≡ Some depth → depth ≤ 8

-- the reader keeps what these lines say, the last of which stands first, and that fits together
pub record IsRead (earlier : List Line) (reader : Reader) : Type 0 where
  pub last_is : reader.stood ≡ last_of earlier
  pub graphs_are : AreBehind earlier reader.graph_names reader.graphs
  pub depths_are : AreDepths earlier reader.depths.items
  pub name_is : reader.name ≡ graph_name_in earlier
  pub variables_are : reader.variables ≡ Listed (variables_in earlier)
  pub names_are : reader.table ≡ node_names_in earlier
  pub unknowns_are : reader.unknowns ≡ unknowns_in earlier
  pub entries_are : reader.entries ≡ entries_in earlier
  pub kinds_are : AreKinds earlier (kinds_of reader.nodes.items)
  pub output_is : reader.output ≡ output_in earlier
  pub points_are : reader.asked.points ≡ points_in earlier
  pub all_is : reader.asked.all ≡ all_in earlier
  pub special_are : reader.asked.special ≡ special_in earlier
  pub coeff_is : reader.asked.coeff ≡ coeff_in earlier
  pub widest_is : reader.asked.widest ≡ widest (bounds_given (all_in earlier) (special_in earlier))
  pub sound : FitsTogether reader

-- nothing is wrong with any of these lines, the last of which stands first
abbrev pub AreGoodLines : List Line → Type 0
AreGoodLines [] = Unit {0}
AreGoodLines (line ∷ before) = (most : ℕ) × (IsFormed most line × IsGoodLine before (Some line) × AreGoodLines before)

-- the reader keeps lines with which nothing is wrong
pub record KeepsGood (reader : Reader) : Type 0 where
  pub earlier : List Line
  pub read : IsRead earlier reader
  pub good : AreGoodLines earlier

-- the reader keeps lines behind which nothing is wrong with this one, its expressions apart
pub record IsNextTo (reader : Reader) (line : Line) : Type 0 where
  pub earlier : List Line
  pub read : IsRead earlier reader
  pub passes : fault_after earlier line ≡ None

-- the reader keeps the lines of a file, with which nothing is wrong and of which nothing is missing
pub record KeepsFile (need : Need) (reader : Reader) : Type 0 where
  pub all : List Line
  pub read : IsRead all reader
  pub good : AreGoodLines all
  pub complete : is_complete need all ≡ true

-- a reader that keeps one more line, which says this
abbrev pub Keeps : List Line → Option Line → Reader → Type 0
Keeps earlier None reader = ⊥
Keeps earlier (Some line) reader = IsGoodLine earlier (Some line) × IsRead (line ∷ earlier) reader

-- the answer to one more line, which says this: the reader keeps it too afterwards, or what is told of the line
abbrev pub IsReadOn : List Line → Option Line → Reader → Result ⊤ FileKind → Type 0
IsReadOn earlier said after (Ok done) = Keeps earlier said after
IsReadOn earlier said after (Err kind.NoMemory) = Unit {0}
IsReadOn earlier said after (Err fault) = IsBadLine earlier said fault

-- a refusal of the line at this place, counted from 0, told with its number, counted from 1
abbrev pub IsToldAt : List (List ℕ) → ℕ → ℕ → FileKind → Type 0
IsToldAt all place number kind.NoMemory = number ≡ 0
IsToldAt all place number fault = (number ≡ place + 1) × IsBadAt all place fault

-- the answer to the line at this place: nothing is wrong with it and the reader keeps it too afterwards, or its refusal
abbrev pub IsNext : List (List ℕ) → ℕ → Reader → Result ⊤ FileError → Type 0
IsNext all place after (Ok done) = IsGoodAt all place × IsRead (said (take (place + 1) all)) after
IsNext all place after (Err error) = IsToldAt all place error.line error.kind

-- why a file that is read for this is refused: what is told of it, or line 0 where memory ran out
abbrev pub IsRefusal : Need → List ℕ → ℕ → FileKind → Type 0
IsRefusal need bytes number kind.NoMemory = number ≡ 0
IsRefusal need bytes number fault = IsFirstBad need bytes number fault

-- the answer to all lines of a file: nothing is wrong with it and the reader keeps them, or the refusal
abbrev pub AreRead : Need → List ℕ → Result Reader FileError → Type 0
AreRead need bytes (Ok reader) = IsGoodFile need bytes × IsRead (said (lines bytes)) reader
AreRead need bytes (Err error) = IsRefusal need bytes error.line error.kind
