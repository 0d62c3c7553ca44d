use Rattle.std.proofs.Common.{◌≡◌, ℕ, ◌+◌, ◌<◌, get_or, length}
use Rattle.sparse_solver.proofs.vectors.back_substitute.Given as goal

abbrev pub invariant-loop-number : goal.invariant-loop-number
invariant-loop-number g l = record {
  room : length l.vector ≡ l.unknowns + 1;
  residues : (k : ℕ) → k < l.unknowns + 1 → get_or l.vector k 0 < g.F.Field.modulus;
  stay : (k : ℕ) → get_or l.steps.turn_of.items k 0 ≡ 0 → get_or l.vector k 0 ≡ get_or l.initial.vector k 0;
}
