use Rattle.univariate.proofs.Counting.{vanishing}
use Rattle.univariate.proofs.zeros.few_zeros.Goals as goal

pub returns : goal.returns
returns c = vanishing
