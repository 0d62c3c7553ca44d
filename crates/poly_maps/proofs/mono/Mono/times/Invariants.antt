use Rattle.std.proofs.Common.{◌≡◌, ◌+◌, ◌<◌, ◌≤◌, ℕ, length, get_or}
use Rattle.poly_maps.proofs.mono.Mono.times.Given as goal

abbrev pub invariant-loop-i : goal.invariant-loop-i
invariant-loop-i l = record {
  eight : length l.exponents ≡ 8;
  done : (k : ℕ) → k < l.i → get_or l.exponents k 0 ≡ get_or l.initial.exponents k 0 + get_or l.other-inside.exponents k 0;
  rest : (k : ℕ) → l.i ≤ k → get_or l.exponents k 0 ≡ get_or l.initial.exponents k 0;
}
