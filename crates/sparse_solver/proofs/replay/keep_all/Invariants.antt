use Rattle.std.proofs.Common.{◌≡◌, ℕ, ◌+◌, ◌<◌, All, get_or, length}
use Rattle.sparse_solver.specs.Packed.{RowsVanish}
use Rattle.sparse_solver.specs.Steps.{KeptVanish}
use Rattle.sparse_solver.proofs.replay.keep_all.Given as goal

abbrev pub invariant-loop-turn : goal.invariant-loop-turn
invariant-loop-turn g l = record {
  room : length l.row ≡ l.unknowns + 1;
  kept_residues : All (λ x. x < g.F.Field.modulus) l.kept;
  zeros : (k : ℕ) → get_or l.row k 0 ≡ 0;
  vanish : (w : ℕ → ℕ) → RowsVanish g.F.Field.modulus l.rows l.starts l.values w → KeptVanish g.F.Field.modulus l.steps l.kept l.turn w;
}
