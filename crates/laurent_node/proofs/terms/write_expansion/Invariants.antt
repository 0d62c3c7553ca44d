use Rattle.std.proofs.Common.{◌≡◌, ℕ, ◌+◌, ◌-◌, ◌*◌, ◌%◌, ◌<◌, ◌∷◌, take, slice_index}
use Rattle.prime_field.specs.Modulus.{value_of}
use Rattle.univariate.specs.Coefficients.{product_of}
use Rattle.laurent_node.specs.Expansion.{numerator_at}
use Rattle.laurent_node.proofs.terms.write_expansion.Given as goal

abbrev pub invariant-loop-i : goal.invariant-loop-i
invariant-loop-i l = record {
  residues : (k : ℕ) → k < l.i → slice_index l.out k < value_of l.m;
  terms : (k : ℕ) → k < l.i → slice_index l.out k ≡
      ((numerator_at l.num (l.first + k) + (value_of l.m - slice_index (0 ∷ product_of l.tail (take k l.out)) k % value_of l.m)) * l.inverse) % value_of l.m;
}
