use Rattle.std.proofs.Common.{◌≡◌, ℕ, ◌<◌, ◌≤◌, length, slice_index}
use Rattle.poly_maps.proofs.enumeration.limits.Given as goal

abbrev pub invariant-loop-i : goal.invariant-loop-i
invariant-loop-i l = record {
  eight : length l.limits ≡ 8;
  done : (k : ℕ) → k < l.i → slice_index l.limits k ≡ slice_index l.each k;
  rest : (k : ℕ) → l.i ≤ k → slice_index l.limits k ≡ 0;
}
