use Rattle.std.proofs.Common.{◌≡◌, ℕ, ◌<◌, ◌^◌, ◌%◌, length, slice_index}
use Rattle.prime_field.specs.Modulus.{value_of}
use Rattle.poly_maps.proofs.powers.table_of.Given as goal

abbrev pub invariant-loop-k : goal.invariant-loop-k
invariant-loop-k l = record {
  room : length l.table ≡ 65;
  residue : l.power < value_of l.m;
  power : l.power ≡ (l.base ^ l.k) % value_of l.m;
  done : (j : ℕ) → j < l.k → slice_index l.table j ≡ (l.base ^ j) % value_of l.m;
}
