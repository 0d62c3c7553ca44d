-- A graph's inputs and the lists of its first nodes, one behind the other in one run of words, and where they end.
use Rattle.std.specs.Prelude.{◌≡◌, ℕ, ◌+◌, ◌<◌, ◌≤◌, List, [], ◌∷◌, ◌++◌, length, map, slice_index, slice_range}
use Rattle.basic_nodes.specs.Plain.{chained}
use Rattle.graph_file.specs.declared.graph.Source.{Source}
use Rattle.graph_file.specs.declared.graph.Source.TheVariants as source

-- the places where so many inputs end, and behind them lists of these lengths
abbrev pub places_of : ℕ → List ℕ → List ℕ
places_of inputs [] = inputs ∷ []
places_of inputs (own ∷ lengths) = inputs ∷ places_of (inputs + own) lengths

-- the inputs, and lists of these lengths, are the words
pub record AreListed (inputs : ℕ) (lengths words : List ℕ) : Type 0 where
  pub entries : List ℕ
  pub lists : List (List ℕ)
  pub many : length entries ≡ inputs
  pub long : map (λ list. length list) lists ≡ lengths
  pub words_are : words ≡ entries ++ chained lists

-- where the list that a source names begins and ends, as a table of places says
abbrev pub start_of : List ℕ → Source → ℕ
start_of places source.Input = 0
start_of places (source.Node number) = slice_index places number

abbrev pub stop_of : List ℕ → Source → ℕ
stop_of places source.Input = slice_index places 0
stop_of places (source.Node number) = slice_index places (number + 1)

-- the list that a source names
abbrev pub placed : List ℕ → List ℕ → Source → List ℕ
placed words places from = slice_range words (start_of places from) (stop_of places from)

-- a table has the places of the list that a source names
abbrev pub HasPlaces : List ℕ → Source → Type 0
HasPlaces places source.Input = 0 < length places
HasPlaces places (source.Node number) = number + 1 < length places

-- the list that a source names stands in the words
abbrev pub IsThere : List ℕ → List ℕ → Source → Type 0
IsThere words places source.Input = (0 < length places) × (slice_index places 0 ≤ length words)
IsThere words places (source.Node number) = (number + 1 < length places) × (slice_index places number ≤ slice_index places (number + 1)) × (slice_index places (number + 1) ≤ length words)

-- the part names an entry, counted from 1, of a list that is there
pub record IsEntry (words places : List ℕ) (part : Source × ℕ) : Type 0 where
  pub there : IsThere words places part.0
  pub first : 1 ≤ part.1
  pub last : part.1 ≤ length (placed words places part.0)

-- the list that the source names has this length
abbrev pub HasLength : List ℕ → List ℕ → ℕ → Source → Type 0
HasLength words places count source = length (placed words places source) ≡ count
