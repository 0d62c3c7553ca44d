-- Where the values of each row begin, and in which order the rows are taken.
use Rattle.std.specs.Prelude.{◌≡◌, ℕ, ◌<◌, ◌≤◌, List, All, Contains, length, slice_index, take, Option, Some}
use Rattle.elim_core.specs.Solver.{AreUnknowns, IsAscending}
use Rattle.elim_core.specs.Sparse.{AreSparseRows, entries_of}
use Rattle.elim_core.specs.declared.SparseRow.{SparseRow}
use Rattle.sparse_solver.specs.Plan.{set_in}
use Rattle.sparse_solver.specs.Steps.{AreSteps}
use Rattle.sparse_solver.specs.declared.steps.Steps.{Steps}

-- the values of each row begin behind those of the rows before it
pub record AreStarts (rows : List SparseRow) (starts : List ℕ) : Type 0 where
  pub room : length starts ≡ length rows
  pub each : (k : ℕ) → k < length rows → slice_index starts k ≡ entries_of (take k rows)

-- the order has the number of each of so many rows, and no other number
pub record TakesEach (count : ℕ) (order : List ℕ) : Type 0 where
  pub within : All (λ k. k < count) order
  pub every : (k : ℕ) → k < count → Contains order k

-- what the fields of a plan keep
pub record IsPlanned (unknowns : ℕ) (rows : List SparseRow) (starts order : List ℕ) (learned : Option (List ℕ)) (steps : Option Steps) : Type 0 where
  pub some : 1 ≤ unknowns
  pub few : unknowns ≤ 4096
  pub sparse : AreSparseRows unknowns rows
  pub begun : AreStarts rows starts
  pub taken : TakesEach (length rows) order
  pub ascending : IsAscending (set_in learned)
  pub numbers : AreUnknowns unknowns (set_in learned)
  pub replayed : (s : Steps) → steps ≡ Some s → AreSteps unknowns rows (set_in learned) s
