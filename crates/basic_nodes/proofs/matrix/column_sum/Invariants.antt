use Rattle.std.proofs.Common.{◌≡◌, ◌+◌, ◌*◌, ◌<◌, slice_index}
use Rattle.prime_field.specs.Modulus.{value_of}
use Rattle.prime_field.specs.Sum.{sum_to}
use Rattle.basic_nodes.proofs.matrix.column_sum.Given as goal

abbrev pub invariant-loop-k : goal.invariant-loop-k
invariant-loop-k l = record {
  low : l.sum < value_of l.m + l.k * (value_of l.m * value_of l.m);
  same : l.sum ≡ l.start + sum_to l.k (λ k. slice_index l.factors k * slice_index l.b (k * l.cols + l.j));
}
