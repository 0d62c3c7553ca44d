use Rattle.std.proofs.Common.{◌≡◌, ℕ, suc, ◌+◌, ◌*◌, ◌≤◌, drop, length, slice_index}
use Rattle.prime_field.specs.Modulus.{value_of}
use Rattle.univariate.specs.Coefficients.{AreResidues}
use Rattle.newton_interp.specs.Grid.{HasGridValues, points_of, grid_size}
use Rattle.newton_interp.proofs.grid.interpolate_grid.Given as goal

abbrev pub invariant-loop-k : goal.invariant-loop-k
invariant-loop-k l = record {
  residues : AreResidues (value_of l.m) l.buffer;
  block : l.block ≡ grid_size (drop l.k (points_of l.axes));
  values : (q : ℕ) → suc q * l.block ≤ length l.initial.buffer →
      HasGridValues (value_of l.m) (drop l.k (points_of l.axes)) (λ i. slice_index l.buffer (q * l.block + i)) (λ i. slice_index l.initial.buffer (q * l.block + i));
}
