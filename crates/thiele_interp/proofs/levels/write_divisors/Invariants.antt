use Rattle.std.proofs.Common.{◌≡◌, ℕ, suc, ◌+◌, ◌-◌, ◌%◌, ◌<◌, slice_index}
use Rattle.prime_field.specs.Modulus.{value_of}
use Rattle.thiele_interp.proofs.levels.write_divisors.Given as goal

abbrev pub invariant-loop-i : goal.invariant-loop-i
invariant-loop-i l = record {
  low : (j : ℕ) → j < l.i → slice_index l.divisors j < value_of l.m;
  done : (j : ℕ) → j < l.i → slice_index l.divisors j ≡ (slice_index l.differences (suc l.k + j) + (value_of l.m - slice_index l.differences l.k)) % value_of l.m;
}
