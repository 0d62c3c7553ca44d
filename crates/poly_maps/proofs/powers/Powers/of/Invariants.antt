use Rattle.std.proofs.Common.{◌≡◌, ℕ, ◌<◌, [], length, slice_index, slice_index_or}
use Rattle.prime_field.specs.Modulus.{value_of}
use Rattle.poly_maps.specs.Powers.{ArePowers}
use Rattle.poly_maps.proofs.powers.Powers.of.Given as goal

abbrev pub invariant-loop-i : goal.invariant-loop-i
invariant-loop-i l = record {
  eight : length l.tables ≡ 8;
  done : (j : ℕ) → j < l.i → ArePowers (value_of l.m) (slice_index l.bases j) l.top (slice_index_or l.tables j []);
}
