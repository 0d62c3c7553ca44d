use Rattle.std.proofs.Common.{◌≡◌, ℕ, ◌+◌, ◌<◌, get_or}
use Rattle.elim_core.proofs.layers.cut_back.Given as goal

abbrev pub invariant-loop-k : goal.invariant-loop-k
invariant-loop-k l = record {
  kept : (i : ℕ) → i < l.k → get_or l.layers i 0 < l.layer + 1 → get_or l.ends i 0 ≡ get_or l.initial.ends i 0;
  emptied : (i : ℕ) → i < l.k → l.layer < get_or l.layers i 0 → get_or l.ends i 0 ≡ 0;
  later : (i : ℕ) → l.k < i + 1 → get_or l.ends i 0 ≡ get_or l.initial.ends i 0;
}
