-- The vectors that tell the unknowns: one for the constants, and one for each unknown of the set.
use Rattle.std.specs.Prelude.{◌≡◌, ◌≢◌, ℕ, ◌+◌, ◌-◌, ◌*◌, ◌<◌, List, length, slice_index}
use Rattle.elim_core.specs.declared.SparseRow.{SparseRow}
use Rattle.sparse_solver.specs.Packed.{RowsVanish}
use Rattle.sparse_solver.specs.declared.steps.Steps.{Steps}

-- w has residues, the sum of each row leaves 0 at it, and of the columns at which no kept row begins it has the value in one
-- and 0 in the others
pub record IsVector (m u : ℕ) (s : Steps) (rows : List SparseRow) (starts values : List ℕ) (place value : ℕ) (w : ℕ → ℕ) : Type 0 where
  pub residues : (k : ℕ) → k < u + 1 → w k < m
  pub vanishes : RowsVanish m rows starts values w
  pub there : slice_index s.turn_of.items place ≡ 0 → w place ≡ value
  pub others : (k : ℕ) → k < u + 1 → k ≢ place → slice_index s.turn_of.items k ≡ 0 → w k ≡ 0

-- a column of the list has the numbers that such a vector has for the wanted unknowns
pub record HasColumn (m u : ℕ) (s : Steps) (rows : List SparseRow) (starts values : List ℕ) (place value : ℕ) (want : List ℕ) (count column : ℕ) (out : List ℕ) : Type 0 where
  pub w : ℕ → ℕ
  pub vector : IsVector m u s rows starts values place value w
  pub written : (t : ℕ) → t < length want → slice_index out (t * (count + 1) + column) ≡ w (slice_index want t)

-- the list has the columns of the first n unknowns of the set, and that of the constants
pub record HasColumns (m u : ℕ) (s : Steps) (rows : List SparseRow) (starts values set want : List ℕ) (n : ℕ) (out : List ℕ) : Type 0 where
  pub constants : HasColumn m u s rows starts values 0 (m - 1) want (length set) (length set) out
  pub multiples : (i : ℕ) → i < n → HasColumn m u s rows starts values (slice_index set i) 1 want (length set) i out
