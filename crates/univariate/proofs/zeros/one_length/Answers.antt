use Rattle.univariate.proofs.Places.{one-length}
use Rattle.univariate.proofs.zeros.one_length.Goals as goal

pub returns : goal.returns
returns c = one-length
