use Rattle.std.proofs.Common.{◌≡◌, ℕ, ◌+◌, ◌%◌, ◌<◌, ◌≤◌, All, slice_index}
use Rattle.prime_field.specs.Modulus.{value_of}
use Rattle.basic_nodes.proofs.lists.sum_into.Given as goal

abbrev pub invariant-loop-k : goal.invariant-loop-k
invariant-loop-k l = record {
  low : All (λ x. x < value_of l.m) l.out;
  done : (k : ℕ) → k < l.k → slice_index l.out k ≡ (slice_index l.initial.out k + slice_index l.a k) % value_of l.m;
  rest : (k : ℕ) → l.k ≤ k → slice_index l.out k ≡ slice_index l.initial.out k;
}
