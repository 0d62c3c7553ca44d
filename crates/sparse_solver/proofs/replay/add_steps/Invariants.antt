use Rattle.std.proofs.Common.{◌≡◌, ℕ, ◌%◌, ◌<◌, All, get_or, length}
use Rattle.sparse_solver.specs.Packed.{row_sum}
use Rattle.sparse_solver.specs.Steps.{IsOutsideTurn, KeptVanish}
use Rattle.sparse_solver.proofs.replay.add_steps.Given as goal

abbrev pub invariant-loop-place : goal.invariant-loop-place
invariant-loop-place g l = record {
  room : length l.row ≡ length l.initial.row;
  residues : All (λ x. x < g.F.Field.modulus) l.row;
  same : (w : ℕ → ℕ) → KeptVanish g.F.Field.modulus l.steps l.kept l.turn w → row_sum l.row w % g.F.Field.modulus ≡ row_sum l.initial.row w % g.F.Field.modulus;
  others : (k : ℕ) → IsOutsideTurn l.steps l.turn k → get_or l.row k 0 ≡ get_or l.initial.row k 0;
}
