-- The law, for every graph and point.
use Rattle.graph_eval.proofs.OneValue.{one_outcome}
use Rattle.graph_eval.proofs.laws.one_outcome.Goals as goal

pub returns : goal.returns
returns c = one_outcome
