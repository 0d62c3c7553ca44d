-- Systems given by the columns in which their rows have values.
use Rattle.std.specs.Prelude.{◌≡◌, ℕ, ◌+◌, ◌<◌, ◌≤◌, List, [], ◌∷◌, length, take, drop, slice_get, slice_index, Some}
use Rattle.elim_core.specs.Kept.{row_with}
use Rattle.elim_core.specs.Solver.{IsAscending}
use Rattle.elim_core.specs.declared.SparseRow.{SparseRow}

-- the columns ascend, and each is that of one of the unknowns, or 0, that of the right side
pub record IsSparseRow (unknowns : ℕ) (row : SparseRow) : Type 0 where
  pub ascending : IsAscending row.columns
  pub within : (i : ℕ) → i < length row.columns → slice_index row.columns i ≤ unknowns

-- each row is one over so many unknowns
abbrev pub AreSparseRows : ℕ → List SparseRow → Type 0
AreSparseRows unknowns rows = (k : ℕ) (row : SparseRow) → slice_get rows k ≡ Some row → IsSparseRow unknowns row

-- how many values the rows have together
abbrev pub entries_of : List SparseRow → ℕ
entries_of [] = 0
entries_of (row ∷ rows) = length row.columns + entries_of rows

-- the system whose rows have these values in their columns, those of the first row first, and zeros elsewhere
abbrev pub rows_with : ℕ → List SparseRow → List ℕ → List (List ℕ)
rows_with unknowns [] values = []
rows_with unknowns (row ∷ rows) values = row_with unknowns row.columns (take (length row.columns) values) ∷ rows_with unknowns rows (drop (length row.columns) values)
