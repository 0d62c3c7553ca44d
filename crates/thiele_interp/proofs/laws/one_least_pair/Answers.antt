use Rattle.thiele_interp.proofs.Same.{pairs_same}
use Rattle.thiele_interp.proofs.laws.one_least_pair.Goals as goal

pub returns : goal.returns
returns c = pairs_same
