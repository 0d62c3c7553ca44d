-- The entries so far.
use Rattle.std.proofs.Common.{◌≡◌, ℕ, ◌+◌, ◌*◌, ◌<◌, length, slice_index}
use Rattle.graph_eval.proofs.expansion.column_of.Given as goal

abbrev pub invariant-loop-row : goal.invariant-loop-row
invariant-loop-row l = record {
  many : length l.column ≡ 131;
  each : (i : ℕ) → i < l.row → slice_index l.column i ≡ slice_index l.words (i * l.width + l.k);
}
