use Rattle.std.proofs.Common.{◌≡◌, ℕ, ◌+◌, ◌*◌, ◌<◌, slice_index}
use Rattle.newton_interp.proofs.grid.read_column.Given as goal

abbrev pub invariant-loop-i : goal.invariant-loop-i
invariant-loop-i l = (h : ℕ) → h < l.i → slice_index l.column h ≡ slice_index l.buffer (l.start + h * l.stride)
