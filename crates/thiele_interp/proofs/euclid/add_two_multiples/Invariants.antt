use Rattle.std.proofs.Common.{◌≡◌, ℕ, ◌+◌, ◌*◌, ◌%◌, ◌<◌, ◌≤◌, ◌∷◌, slice_index}
use Rattle.prime_field.specs.Modulus.{value_of}
use Rattle.univariate.specs.Coefficients.{AreResidues}
use Rattle.thiele_interp.proofs.euclid.add_two_multiples.Given as goal

abbrev pub invariant-loop-k : goal.invariant-loop-k
invariant-loop-k l = record {
  residues : AreResidues (value_of l.m) l.target;
  below_low : l.below < value_of l.m;
  below_is : l.below ≡ slice_index (0 ∷ l.source) l.k;
  done : (i : ℕ) → i < l.k →
      slice_index l.target i % value_of l.m ≡ (slice_index l.initial.target i + l.high * slice_index (0 ∷ l.source) i + l.low * slice_index l.source i) % value_of l.m;
  rest : (i : ℕ) → l.k ≤ i → slice_index l.target i ≡ slice_index l.initial.target i;
}
