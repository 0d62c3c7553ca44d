use Rattle.std.proofs.Common.{◌≡◌, ℕ, ◌+◌, ◌*◌, ◌%◌, ◌<◌, ◌≤◌, ◌∷◌, slice_index}
use Rattle.prime_field.specs.Modulus.{value_of}
use Rattle.univariate.specs.Coefficients.{AreResidues}
use Rattle.newton_interp.proofs.passes.raise_both.Given as goal

abbrev pub invariant-loop-i : goal.invariant-loop-i
invariant-loop-i l = record {
  product_residues : AreResidues (value_of l.m) l.product;
  out_residues : AreResidues (value_of l.m) l.out;
  below_low : l.below < value_of l.m;
  lower_low : l.lower < value_of l.m;
  below_is : l.below ≡ slice_index (0 ∷ l.initial.product) l.i;
  lower_is : l.lower ≡ slice_index (0 ∷ 0 ∷ l.initial.product) l.i;
  product_done : (j : ℕ) → j < l.i → slice_index l.product j % value_of l.m ≡
      (slice_index (0 ∷ 0 ∷ l.initial.product) j + l.linear * slice_index (0 ∷ l.initial.product) j + l.constant * slice_index l.initial.product j) % value_of l.m;
  product_rest : (j : ℕ) → l.i ≤ j → slice_index l.product j ≡ slice_index l.initial.product j;
  out_done : (j : ℕ) → j < l.i → slice_index l.out j % value_of l.m ≡
      (l.both * slice_index l.initial.out j + l.low * slice_index l.initial.product j + l.high * slice_index (0 ∷ l.initial.product) j) % value_of l.m;
  out_rest : (j : ℕ) → l.i ≤ j → slice_index l.out j ≡ slice_index l.initial.out j;
}
