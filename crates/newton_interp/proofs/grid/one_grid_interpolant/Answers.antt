use Rattle.newton_interp.proofs.Columns.{one-grid}
use Rattle.newton_interp.proofs.grid.one_grid_interpolant.Goals as goal

pub returns : goal.returns
returns c = one-grid
