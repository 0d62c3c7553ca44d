use Rattle.std.proofs.Common.{◌≡◌, ℕ, ◌+◌, ◌*◌, ◌%◌, ◌<◌, All, get_or}
use Rattle.prime_field.specs.Sum.{sum_to}
use Rattle.sparse_solver.specs.Packed.{IsOutside, row_sum}
use Rattle.sparse_solver.proofs.packed.add_packed.Given as goal

abbrev pub invariant-loop-i : goal.invariant-loop-i
invariant-loop-i g l = record {
  added : (w : ℕ → ℕ) → row_sum l.row w % g.F.Field.modulus ≡ (row_sum l.initial.row w + l.factor * sum_to l.i (λ k. get_or l.values k 0 * w (get_or l.columns k 0))) % g.F.Field.modulus;
  residues : All (λ x. x < g.F.Field.modulus) l.row;
  others : (k : ℕ) → IsOutside l.columns k → get_or l.row k 0 ≡ get_or l.initial.row k 0;
}
