-- The points so far.
use Rattle.std.proofs.Common.{◌≡◌, ℕ, ◌+◌, ◌<◌, ◌^◌, length, slice_index}
use Rattle.graph_eval.proofs.expansion.all_points.Given as goal

abbrev pub invariant-loop-number : goal.invariant-loop-number
invariant-loop-number l = record {
  many : length l.points ≡ 131;
  each : (i : ℕ) → i < l.number → slice_index l.points i ≡ 2 ^ 40 + 1 + i;
}
