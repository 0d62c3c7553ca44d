use Rattle.std.proofs.Common.{◌≡◌, ◌*◌, ◌%◌, ◌<◌, ◌≤◌, ℕ, length, slice_index}
use Rattle.prime_field.specs.Modulus.{value_of}
use Rattle.prime_field.specs.Product.{product_to}
use Rattle.prime_field.proofs.batch.take_apart.Given as goal

abbrev pub invariant-loop-i : goal.invariant-loop-i
invariant-loop-i l = record {
  residue : l.inverse < value_of l.modulus;
  rest : (product_to l.i (slice_index l.initial.xs) * l.inverse) % value_of l.modulus ≡ 1;
  kept : (k : ℕ) → k < l.i → slice_index l.xs k ≡ slice_index l.initial.xs k;
  residues : (k : ℕ) → l.i ≤ k → k < length l.initial.xs → slice_index l.xs k < value_of l.modulus;
  products : (k : ℕ) → l.i ≤ k → k < length l.initial.xs →
      (slice_index l.initial.xs k * slice_index l.xs k) % value_of l.modulus ≡ 1;
}
