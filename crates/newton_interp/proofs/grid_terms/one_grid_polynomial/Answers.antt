use Rattle.newton_interp.proofs.GridLaw.{one-polynomial}
use Rattle.newton_interp.proofs.grid_terms.one_grid_polynomial.Goals as goal

pub returns : goal.returns
returns c = one-polynomial
