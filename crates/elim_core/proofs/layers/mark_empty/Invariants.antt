use Rattle.std.proofs.Common.{◌≡◌, ◌≢◌, ℕ, ◌<◌, get_or}
use Rattle.elim_core.proofs.layers.mark_empty.Given as goal

abbrev pub invariant-loop-k : goal.invariant-loop-k
invariant-loop-k l = record {
  empty : (i : ℕ) → i < l.k → get_or l.ends i 0 ≡ 0 → get_or l.layers i 0 ≡ l.layer;
  used : (i : ℕ) → get_or l.ends i 0 ≢ 0 → get_or l.layers i 0 ≡ get_or l.initial.layers i 0;
}
