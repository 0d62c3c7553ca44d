use Rattle.std.proofs.Common.{◌≡◌, ℕ, ◌+◌, ◌*◌, ◌%◌, ◌<◌, ◌≤◌, slice_index}
use Rattle.prime_field.specs.Modulus.{value_of}
use Rattle.univariate.specs.Coefficients.{raised, AreResidues}
use Rattle.univariate.proofs.lists.add_multiple.Given as goal

abbrev pub invariant-loop-k : goal.invariant-loop-k
invariant-loop-k l = record {
  residues : AreResidues (value_of l.m) l.target;
  done : (i : ℕ) → i < l.shift + l.k →
      slice_index l.target i % value_of l.m ≡ (slice_index l.initial.target i + l.factor * slice_index (raised l.shift l.source) i) % value_of l.m;
  rest : (i : ℕ) → l.shift + l.k ≤ i → slice_index l.target i ≡ slice_index l.initial.target i;
}
