use Rattle.std.proofs.Common.{◌≡◌, ◌≢◌, ℕ, ◌+◌, ◌*◌, ◌<◌, get_or, length}
use Rattle.sparse_solver.proofs.vectors.write_column.Given as goal

abbrev pub invariant-loop-t : goal.invariant-loop-t
invariant-loop-t l = record {
  room : length l.out ≡ length l.initial.out;
  written : (t : ℕ) → t < l.t → get_or l.out (t * (l.count + 1) + l.column) 0 ≡ get_or l.vector (get_or l.want t 0) 0;
  others : (t k : ℕ) → k < l.count + 1 → k ≢ l.column → get_or l.out (t * (l.count + 1) + k) 0 ≡ get_or l.initial.out (t * (l.count + 1) + k) 0;
}
