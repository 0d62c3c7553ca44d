use Rattle.std.proofs.Common.{◌≡◌, ◌%◌, ◌<◌, ℕ, slice_index}
use Rattle.prime_field.specs.Modulus.{value_of}
use Rattle.prime_field.specs.Product.{product_to}
use Rattle.prime_field.proofs.batch.products_before.Given as goal

abbrev pub invariant-loop-i : goal.invariant-loop-i
invariant-loop-i l = record {
  residue : l.product < value_of l.modulus;
  so_far : l.product ≡ product_to l.i (slice_index l.xs) % value_of l.modulus;
  before : (k : ℕ) → k < l.i → slice_index l.products k ≡ product_to k (slice_index l.xs) % value_of l.modulus;
}
