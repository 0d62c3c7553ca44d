use Rattle.std.proofs.Common.{◌≡◌, ℕ, ◌-◌, ◌<◌, ◌≤◌, length, slice_index}
use Rattle.multivar_recon.proofs.ray_frame.difference.Given as goal

abbrev pub invariant-loop-k : goal.invariant-loop-k
invariant-loop-k l = record {
  eight : length l.all ≡ 8;
  done : (j : ℕ) → j < l.k → slice_index l.all j ≡ slice_index l.upper j - slice_index l.lower j;
  rest : (j : ℕ) → l.k ≤ j → slice_index l.all j ≡ 0;
}
