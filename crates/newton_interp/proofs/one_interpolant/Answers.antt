use Rattle.newton_interp.proofs.Points.{interpolants_same}
use Rattle.newton_interp.proofs.one_interpolant.Goals as goal

pub returns : goal.returns
returns c = interpolants_same
