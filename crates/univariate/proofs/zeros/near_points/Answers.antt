use Rattle.univariate.proofs.Small.{near-apart}
use Rattle.univariate.proofs.zeros.near_points.Goals as goal

pub returns : goal.returns
returns c = near-apart
