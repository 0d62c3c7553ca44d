use Rattle.std.proofs.Common.{◌≡◌, ◌+◌, ◌*◌, ◌%◌, ◌<◌, get_or}
use Rattle.prime_field.specs.Sum.{sum_to}
use Rattle.sparse_solver.proofs.packed.sum_packed.Given as goal

abbrev pub invariant-loop-i : goal.invariant-loop-i
invariant-loop-i g l = record {
  sum : l.sum % g.F.Field.modulus ≡ sum_to l.i (λ k. get_or l.values k 0 * get_or l.vector (get_or l.columns k 0) 0) % g.F.Field.modulus;
  few : l.sum < g.F.Field.modulus + l.i % 4 * (g.F.Field.modulus * g.F.Field.modulus);
}
