use Rattle.std.proofs.Common.{◌≡◌, ◌+◌, ◌-◌, ◌*◌, ◌%◌, ◌<◌, get_or}
use Rattle.prime_field.specs.Modulus.{value_of}
use Rattle.prime_field.specs.Sum.{sum_to}
use Rattle.elim_core.proofs.solver.told_by_later.Given as goal

abbrev pub invariant-loop-r : goal.invariant-loop-r
invariant-loop-r l = record {
  sum : l.sum ≡ sum_to l.r (λ k. get_or l.out (l.start + (l.first + k)) 0 * get_or l.values (get_or l.set (l.first + k) 0 - 1) 0) % value_of l.modulus;
  residue : l.sum < value_of l.modulus;
}
