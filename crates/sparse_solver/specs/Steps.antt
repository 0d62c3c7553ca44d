-- The steps that a plan has learned: which rows are kept in turn, in which columns each of them can have anything, and which
-- earlier ones are added to it before it is kept.
use Rattle.std.specs.Prelude.{◌≡◌, ◌≢◌, ℕ, ◌+◌, ◌-◌, ◌*◌, ◌%◌, ◌<◌, ◌≤◌, true, false, List, length, slice_get, slice_index, slice_range, Some}
use Rattle.elim_core.specs.Solver.{has_number}
use Rattle.elim_core.specs.declared.SparseRow.{SparseRow}
use Rattle.sparse_solver.specs.Packed.{AreColumns, IsOutside, packed_sum}
use Rattle.sparse_solver.specs.declared.steps.Steps.{Steps}

-- how many rows are kept
abbrev pub kept_in : Steps → ℕ
kept_in s = length s.leads.items

-- the part of a list that belongs to turn t: from its lead on, where an unknown stands, to its end
abbrev pub part_of : Steps → ℕ → List ℕ → List ℕ
part_of s t list = slice_range list (slice_index s.leads.items t) (slice_index s.starts.items (t + 1))

-- the columns before the lead, in which nothing is left
abbrev pub head_of : Steps → ℕ → List ℕ
head_of s t = slice_range s.columns.items (slice_index s.starts.items t) (slice_index s.leads.items t)

-- k is none of the columns of turn t
abbrev pub IsOutsideTurn : Steps → ℕ → ℕ → Type 0
IsOutsideTurn s t k = IsOutside (head_of s t) k × IsOutside (part_of s t s.columns.items) k

-- where the columns of turn t begin and end, and which earlier turns it needs
pub record IsPlaced (s : Steps) (t : ℕ) : Type 0 where
  pub begins : slice_index s.starts.items t ≤ slice_index s.leads.items t
  pub leads : slice_index s.leads.items t < slice_index s.starts.items (t + 1)
  pub ends : slice_index s.starts.items (t + 1) ≤ length s.columns.items
  pub order : slice_index s.firsts.items t ≤ slice_index s.firsts.items (t + 1)
  pub steps_end : slice_index s.firsts.items (t + 1) ≤ length s.earlier.items
  pub before : (q : ℕ) → slice_index s.firsts.items t ≤ q → q < slice_index s.firsts.items (t + 1) → slice_index s.earlier.items q < t

-- the lists have a place for each turn
pub record AreRoomy (u : ℕ) (s : Steps) : Type 0 where
  pub few : kept_in s ≤ u
  pub room : length s.columns.items ≤ u * (u + 1)
  pub numbers_room : length s.numbers.items ≡ kept_in s
  pub starts_room : length s.starts.items ≡ kept_in s + 1
  pub firsts_room : length s.firsts.items ≡ kept_in s + 1
  pub used_room : length s.is_used.items ≡ kept_in s
  pub turns_room : length s.turn_of.items ≡ u + 1

-- and hold numbers that can be used
pub record AreShaped (u : ℕ) (s : Steps) : Type 0 where
  pub roomy : AreRoomy u s
  pub within : AreColumns (u + 1) s.columns.items
  pub placed : (t : ℕ) → t < kept_in s → IsPlaced s t

-- turn t keeps a row of the system, and all of its columns and those of the rows that are added to it are columns of the turn
pub record IsTurn (rows : List SparseRow) (s : Steps) (t : ℕ) : Type 0 where
  pub number : slice_index s.numbers.items t < length rows
  pub row_closed : (row : SparseRow) → slice_get rows (slice_index s.numbers.items t) ≡ Some row →
      (k : ℕ) → IsOutsideTurn s t k → IsOutside row.columns k
  pub step_closed : (q : ℕ) → slice_index s.firsts.items t ≤ q → q < slice_index s.firsts.items (t + 1) →
      (k : ℕ) → IsOutsideTurn s t k → IsOutside (part_of s (slice_index s.earlier.items q) s.columns.items) k

pub record AreTurns (rows : List SparseRow) (s : Steps) (n : ℕ) : Type 0 where
  pub each : (t : ℕ) → t < n → IsTurn rows s t

-- no row begins at the right side, and each of the others that begins somewhere is that of a turn
pub record AreTurnsOf (s : Steps) : Type 0 where
  pub right : slice_index s.turn_of.items 0 ≡ 0
  pub within : (j : ℕ) → slice_index s.turn_of.items j ≤ kept_in s

-- a row with these columns begins at j, and later ones alone follow, but for the right side
pub record IsFirst (columns : List ℕ) (j : ℕ) : Type 0 where
  pub first : slice_index columns 0 ≡ j
  pub later : (i : ℕ) → 0 < i → i < length columns → slice_index columns i ≢ 0 → j < slice_index columns i

-- the unknown j is in the set where no kept row begins at it, and else it is not
pub record IsLed (s : Steps) (set : List ℕ) (j : ℕ) : Type 0 where
  pub chosen : slice_index s.turn_of.items j ≡ 0 → has_number set j ≡ true
  pub unchosen : slice_index s.turn_of.items j ≢ 0 → has_number set j ≡ false
  pub begins : slice_index s.turn_of.items j ≢ 0 → IsFirst (part_of s (slice_index s.turn_of.items j - 1) s.columns.items) j

-- the steps can be taken, and lead to values of all unknowns
pub record AreSteps (u : ℕ) (rows : List SparseRow) (set : List ℕ) (s : Steps) : Type 0 where
  pub shaped : AreShaped u s
  pub turns : AreTurns rows s (kept_in s)
  pub turns_of : AreTurnsOf s
  pub led : (j : ℕ) → 0 < j → j < u + 1 → IsLed s set j

-- the sums of the rows kept in the first t turns leave 0
abbrev pub KeptVanish : ℕ → Steps → List ℕ → ℕ → (ℕ → ℕ) → Type 0
KeptVanish m s kept t w = (e : ℕ) → e < t → packed_sum (part_of s e s.columns.items) (part_of s e kept) w % m ≡ 0
