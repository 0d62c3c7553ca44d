use Rattle.std.proofs.Common.{◌≡◌, ℕ, ◌+◌, ◌-◌, ◌*◌, ◌%◌, ◌<◌, ◌≤◌, All, length, slice_index}
use Rattle.prime_field.specs.Modulus.{value_of}
use Rattle.prime_field.specs.Sum.{sum_to}
use Rattle.basic_nodes.proofs.matrix.row_product.Given as goal

abbrev pub invariant-loop-done : goal.invariant-loop-done
invariant-loop-done l = record {
  within : l.done ≤ length l.row;
  low : All (λ x. x < value_of l.m) l.out;
  entries : (j : ℕ) → j < l.cols → slice_index l.out j
      ≡ sum_to l.done (λ k. slice_index l.row k * slice_index l.b (k * l.cols + j)) % value_of l.m;
}

abbrev pub decreases-loop-done : goal.decreases-loop-done
decreases-loop-done l = length l.row - l.done
