use Rattle.std.proofs.Common.{◌≡◌, ℕ, ◌+◌, ◌*◌, ◌<◌, All, get_or}
use Rattle.prime_field.specs.Sum.{sum_to}
use Rattle.sparse_solver.specs.Packed.{IsOutside, row_sum}
use Rattle.sparse_solver.proofs.packed.take_packed.Given as goal

abbrev pub invariant-loop-i : goal.invariant-loop-i
invariant-loop-i l = record {
  moved : (w : ℕ → ℕ) → row_sum l.row w + sum_to l.i (λ k. get_or l.values k 0 * w (get_or l.columns k 0)) ≡ row_sum l.initial.row w;
  below : (m : ℕ) → 0 < m → All (λ x. x < m) l.initial.row → All (λ x. x < m) l.row × ((k : ℕ) → k < l.i → get_or l.values k 0 < m);
  cleared : (k : ℕ) → k < l.i → get_or l.row (get_or l.columns k 0) 0 ≡ 0;
  others : (k : ℕ) → IsOutside l.columns k → get_or l.row k 0 ≡ get_or l.initial.row k 0;
}
