use Rattle.std.proofs.Common.{◌≡◌, ℕ, ◌+◌, ◌*◌, ◌%◌, ◌<◌, ◌≤◌, All, length, slice_index}
use Rattle.prime_field.specs.Modulus.{value_of}
use Rattle.prime_field.specs.Sum.{sum_to}
use Rattle.basic_nodes.proofs.matrix.add_rows.Given as goal

abbrev pub invariant-loop-j : goal.invariant-loop-j
invariant-loop-j l = record {
  low : All (λ x. x < value_of l.m) l.out;
  done : (j : ℕ) → j < l.j → slice_index l.out j
      ≡ (slice_index l.initial.out j + sum_to (length l.factors) (λ k. slice_index l.factors k * slice_index l.b (k * l.cols + j))) % value_of l.m;
  rest : (j : ℕ) → l.j ≤ j → slice_index l.out j ≡ slice_index l.initial.out j;
}
