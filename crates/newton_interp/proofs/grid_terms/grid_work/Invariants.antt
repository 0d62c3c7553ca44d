use Rattle.std.proofs.Common.{◌≡◌, drop}
use Rattle.newton_interp.specs.Grid.{points_of, grid_work}
use Rattle.newton_interp.proofs.grid_terms.grid_work.Given as goal

abbrev pub invariant-loop-k : goal.invariant-loop-k
invariant-loop-k l = l.work ≡ grid_work (drop l.k (points_of l.axes))
