-- Rows as columns with a value each. Column 0 is that of the right side, column j that of the unknown j, and w has a number for
-- each column: a solution's, with the modulus less 1 for column 0, so that a row holds where its sum leaves 0.
use Rattle.std.specs.Prelude.{◌≡◌, ◌≢◌, ℕ, ◌+◌, ◌*◌, ◌%◌, ◌<◌, List, length, slice_get, slice_index, slice_range, Some}
use Rattle.prime_field.specs.Sum.{sum_to}
use Rattle.elim_core.specs.declared.SparseRow.{SparseRow}

-- the sum of the values, each times the number for its column
abbrev pub packed_sum : List ℕ → List ℕ → (ℕ → ℕ) → ℕ
packed_sum columns values w = sum_to (length columns) (λ i. slice_index values i * w (slice_index columns i))

-- the same for a row with a value in each column
abbrev pub row_sum : List ℕ → (ℕ → ℕ) → ℕ
row_sum row w = sum_to (length row) (λ k. slice_index row k * w k)

-- k is none of the columns
abbrev pub IsOutside : List ℕ → ℕ → Type 0
IsOutside columns k = (i : ℕ) → i < length columns → slice_index columns i ≢ k

-- each column is below the width
abbrev pub AreColumns : ℕ → List ℕ → Type 0
AreColumns width columns = (i : ℕ) → i < length columns → slice_index columns i < width

-- the values of the row whose values begin at `start`
abbrev pub values_of : List ℕ → ℕ → SparseRow → List ℕ
values_of values start row = slice_range values start (start + length row.columns)

-- the sum of each row of the system leaves 0
abbrev pub RowsVanish : ℕ → List SparseRow → List ℕ → List ℕ → (ℕ → ℕ) → Type 0
RowsVanish m rows starts values w = (i : ℕ) (row : SparseRow) → slice_get rows i ≡ Some row →
    packed_sum row.columns (values_of values (slice_index starts i) row) w % m ≡ 0

-- these are the columns of the row with this number, and its values
pub record IsRowAt (rows : List SparseRow) (starts values : List ℕ) (number : ℕ) (columns part : List ℕ) : Type 0 where
  pub row : SparseRow
  pub at : slice_get rows number ≡ Some row
  pub columns_are : columns ≡ row.columns
  pub values_are : part ≡ values_of values (slice_index starts number) row
