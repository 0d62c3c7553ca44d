use Rattle.std.proofs.Common.{◌≡◌, ◌≢◌, ℕ, ◌+◌, ◌*◌, ◌<◌, slice_index}
use Rattle.univariate.specs.Coefficients.{AreResidues}
use Rattle.newton_interp.proofs.grid.write_column.Given as goal

abbrev pub invariant-loop-i : goal.invariant-loop-i
invariant-loop-i l = record {
  column : (h : ℕ) → h < l.i → slice_index l.buffer (l.start + h * l.stride) ≡ slice_index l.column h;
  others : (k : ℕ) → ((h : ℕ) → h < l.i → k ≢ l.start + h * l.stride) → slice_index l.buffer k ≡ slice_index l.initial.buffer k;
  low : (m : ℕ) → AreResidues m l.column → AreResidues m l.initial.buffer → AreResidues m l.buffer;
}
