use Rattle.std.proofs.Common.{◌≡◌, ℕ, ◌≤◌, get_or}
use Rattle.sparse_solver.specs.Packed.{IsOutside}
use Rattle.sparse_solver.proofs.learned.mark_columns.Given as goal

abbrev pub invariant-loop-column : goal.invariant-loop-column
invariant-loop-column l = record {
  others : (k : ℕ) → IsOutside l.columns k → get_or l.marks k 0 ≡ get_or l.initial.marks k 0;
  below : ((k : ℕ) → get_or l.initial.marks k 0 ≤ l.mark) → (k : ℕ) → get_or l.marks k 0 ≤ l.mark;
}
