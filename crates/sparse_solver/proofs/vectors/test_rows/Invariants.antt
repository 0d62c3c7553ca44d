use Rattle.std.proofs.Common.{◌≡◌, ℕ, ◌%◌, ◌<◌, get_or}
use Rattle.std.specs.Prelude.{Some, slice_get}
use Rattle.elim_core.specs.declared.SparseRow.{SparseRow}
use Rattle.sparse_solver.specs.Packed.{packed_sum, values_of}
use Rattle.sparse_solver.proofs.vectors.test_rows.Given as goal

abbrev pub invariant-loop-number : goal.invariant-loop-number
invariant-loop-number g l = (i : ℕ) (row : SparseRow) → i < l.number → slice_get l.rows i ≡ Some row →
    packed_sum row.columns (values_of l.values (get_or l.starts i 0) row) (λ k. get_or l.vector k 0) % g.F.Field.modulus ≡ 0
