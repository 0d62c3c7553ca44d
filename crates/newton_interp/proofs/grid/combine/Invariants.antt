use Rattle.std.proofs.Common.{◌≡◌, ℕ, ◌+◌, ◌*◌, ◌%◌, ◌<◌, length, slice_index}
use Rattle.prime_field.specs.Modulus.{value_of}
use Rattle.prime_field.specs.Sum.{sum_to}
use Rattle.newton_interp.proofs.grid.combine.Given as goal

abbrev pub invariant-loop-i : goal.invariant-loop-i
invariant-loop-i l = record {
  low : (j : ℕ) → j < l.i → slice_index l.combined j < value_of l.m;
  combined : (j : ℕ) → j < l.i →
      slice_index l.combined j ≡ sum_to (length l.column) (λ h. slice_index l.basis (j * length l.column + h) * slice_index l.column h) % value_of l.m;
}
