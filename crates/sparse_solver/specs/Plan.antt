-- A plan for a system of sparse rows: its unknowns, its rows, and the independent unknowns that it has learned.
use Rattle.std.specs.Prelude.{◌≡◌, ℕ, List, [], Option, Some, None}
use Rattle.elim_core.specs.declared.SparseRow.{SparseRow}

pub record Plan : Type 0 where
  pub unknowns : ℕ
  pub rows : List SparseRow
  pub learned : Option (List ℕ)

-- the set that was learned, if any was, and else the empty one
abbrev pub set_in : Option (List ℕ) → List ℕ
set_in None = []
set_in (Some set) = set

-- the independent unknowns that the plan has learned, none where it has learned nothing
abbrev pub set_of : Plan → List ℕ
set_of plan = set_in plan.learned

-- the plan has learned a set
abbrev pub IsLearned : Plan → Type 0
IsLearned plan = plan.learned ≡ Some (set_of plan)
