use Rattle.std.proofs.Common.{◌≡◌, ◌-◌, ◌*◌, ◌%◌, ◌<◌, length, slice_index}
use Rattle.prime_field.specs.Modulus.{value_of}
use Rattle.prime_field.specs.Sum.{sum_to}
use Rattle.laurent_node.proofs.terms.earlier.Given as goal

abbrev pub invariant-loop-h : goal.invariant-loop-h
invariant-loop-h l = record {
  residue : l.sum < value_of l.m;
  value : l.sum ≡ sum_to l.h (λ h. slice_index l.tail h * slice_index l.done (length l.done - 1 - h)) % value_of l.m;
}
