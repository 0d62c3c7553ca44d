-- Tables whose rows are filled by blocks: block b of a list of points has the points 32 b to 32 b + 31, as far as there are such points.
use Rattle.std.specs.Prelude.{◌≡◌, ℕ, ◌/◌, ◌<◌, ◌≤◌, All, List, [], ◌∷◌, ◌++◌, length, slice_get, slice_index_or, slice_set, Option, Some, None, IsSomeAnd, option_map, vec_len}
use Rattle.std.specs.Int.{div_ceil}
use Rattle.prime_field.specs.Residue.{IsPrime}
use Rattle.graph_file.specs.declared.graph.Graph.{Graph}
use Rattle.graph_eval.specs.declared.learned.GraphLearned.{GraphLearned}
use Rattle.graph_eval.specs.Evaluated.{outcome_of}
use Rattle.graph_eval.specs.declared.outcome.Outcome as code
use Rattle.graph_eval.specs.GraphValue.{GraphValue, Outcome, Value, main_number}
use Rattle.graph_eval.specs.Learned.{outputs_of, sets_of}
use Rattle.parallel_sampler.specs.declared.row.Row.{Row}
use Rattle.parallel_sampler.specs.Board.{times}
use Rattle.parallel_sampler.specs.Rows.{FitsRow}

-- a table as contracts see it: its rows, each empty or what a graph has at a point, and the room of each row in residues
pub record Filling : Type 0 where
  pub rows : List (Option Outcome)
  pub room : ℕ

-- what a row of the program's table stands for: nothing before an outcome was kept, and then this outcome with the row's words
abbrev pub kept_row : Row → Option Outcome
kept_row row = option_map (outcome_of row.words.items) row.outcome

-- the row has words for so many residues
abbrev pub HasRoom : ℕ → Row → Type 0
HasRoom room row = vec_len row.words ≡ room

abbrev pub row_at : List (Option Outcome) → ℕ → Option Outcome
row_at rows i = slice_index_or rows i None

abbrev pub point_at : List (List ℕ) → ℕ → List ℕ
point_at points i = slice_index_or points i []

-- how many blocks so many points have
abbrev pub blocks_of : ℕ → ℕ
blocks_of points = div_ceil points 32

-- what the main graph of these graphs has at the point, where the modulus is prime; whatever the modulus, a row of the graph
pub record IsMainValue (m : ℕ) (graphs : List Graph) (learned : List GraphLearned) (point : List ℕ) (outcome : Outcome) : Type 0 where
  pub fits : FitsRow m (slice_get graphs (main_number graphs)) (outputs_of learned) outcome
  pub value : IsPrime m → GraphValue m graphs (sets_of learned) (main_number graphs) point outcome

-- the row is not empty, and has this
abbrev pub HasValue : ℕ → List Graph → List GraphLearned → List ℕ → Option Outcome → Type 0
HasValue m graphs learned point row = IsSomeAnd row (IsMainValue m graphs learned point)

-- row i has what the graph has at the point, and nothing else is changed
pub record PutsRow (m : ℕ) (graphs : List Graph) (learned : List GraphLearned) (point : List ℕ) (i : ℕ) (before after : Filling) : Type 0 where
  pub outcome : Outcome
  pub is : IsMainValue m graphs learned point outcome
  pub put : after ≡ record before { rows = slice_set before.rows i (Some outcome) }

-- the rows from one place up to another have what the graph has at their points, and all others are as they were
pub record FillsRows (m : ℕ) (graphs : List Graph) (learned : List GraphLearned) (points : List (List ℕ)) (low high : ℕ) (before after : List (Option Outcome)) : Type 0 where
  pub long : length after ≡ length before
  pub filled : (i : ℕ) → low ≤ i → i < high → HasValue m graphs learned (point_at points i) (row_at after i)
  pub below : (i : ℕ) → i < low → row_at after i ≡ row_at before i
  pub above : (i : ℕ) → high ≤ i → row_at after i ≡ row_at before i

-- there is a row for each point. Where the point's block was drawn, it has what the graph has there, and else it is empty
pub record IsFilledBy (m : ℕ) (graphs : List Graph) (learned : List GraphLearned) (points : List (List ℕ)) (drawn : List ℕ) (rows : List (Option Outcome)) : Type 0 where
  pub long : length rows ≡ length points
  pub filled : (i : ℕ) → i < length points → 0 < times (i / 32) drawn → HasValue m graphs learned (point_at points i) (row_at rows i)
  pub rest : (i : ℕ) → i < length points → times (i / 32) drawn ≡ 0 → row_at rows i ≡ None

-- the last number that was drawn is no block, and all earlier ones are
pub record HasEnded (blocks : ℕ) (drawn : List ℕ) : Type 0 where
  pub earlier : List ℕ
  pub last : ℕ
  pub all : drawn ≡ earlier ++ last ∷ []
  pub are_blocks : All (λ x. x < blocks) earlier
  pub no_block : blocks ≤ last

-- the other row where it is not empty, else the own row
abbrev pub taken : Option Outcome → Option Outcome → Option Outcome
taken own None = own
taken own (Some outcome) = Some outcome

-- each row that is not empty in the other table is taken from there, and the rest is as it was
pub record TakesRows (other before after : List (Option Outcome)) : Type 0 where
  pub long : length after ≡ length before
  pub each : (i : ℕ) → i < length before → row_at after i ≡ taken (row_at before i) (row_at other i)

-- what a row stands for that is not empty
abbrev pub told_of : List ℕ → Option code.Outcome → Outcome
told_of words None = Value words
told_of words (Some outcome) = outcome_of words outcome

abbrev pub told_in : Row → Outcome
told_in row = told_of row.words.items row.outcome
