use Rattle.std.proofs.Common.{◌≡◌, ℕ, ◌*◌, ◌%◌, ◌<◌, ◌≤◌, slice_index}
use Rattle.prime_field.specs.Modulus.{value_of}
use Rattle.multivar_recon.proofs.vectors.multiply.Given as goal

abbrev pub invariant-loop-entry : goal.invariant-loop-entry
invariant-loop-entry l = record {
  done : (k : ℕ) → k < l.entry-index → slice_index l.row k ≡ (slice_index l.initial.row k * l.factor) % value_of l.m;
  rest : (k : ℕ) → l.entry-index ≤ k → slice_index l.row k ≡ slice_index l.initial.row k;
}
