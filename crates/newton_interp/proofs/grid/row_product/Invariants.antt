use Rattle.std.proofs.Common.{◌≡◌, ◌+◌, ◌*◌, ◌%◌, ◌<◌, slice_index}
use Rattle.prime_field.specs.Modulus.{value_of}
use Rattle.prime_field.specs.Sum.{sum_to}
use Rattle.newton_interp.proofs.grid.row_product.Given as goal

abbrev pub invariant-loop-h : goal.invariant-loop-h
invariant-loop-h l = record {
  residue : l.sum < value_of l.m;
  sum : l.sum ≡ sum_to l.h (λ k. slice_index l.basis (l.first + k) * slice_index l.column k) % value_of l.m;
}
