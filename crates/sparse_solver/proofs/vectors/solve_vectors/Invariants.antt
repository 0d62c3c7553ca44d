use Rattle.std.proofs.Common.{◌≡◌, ◌+◌, length}
use Rattle.sparse_solver.specs.Told.{HasColumns}
use Rattle.sparse_solver.proofs.vectors.solve_vectors.Given as goal

abbrev pub invariant-loop-i : goal.invariant-loop-i
invariant-loop-i g l = record {
  vector_room : length l.vector ≡ l.unknowns + 1;
  room : length l.out ≡ length l.initial.out;
  told : HasColumns g.F.Field.modulus l.unknowns l.steps l.rows l.starts l.values l.set l.want l.i l.out;
}
