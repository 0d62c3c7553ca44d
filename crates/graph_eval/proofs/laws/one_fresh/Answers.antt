-- The law, for every graph and point.
use Rattle.graph_eval.proofs.OneFresh.{one_fresh}
use Rattle.graph_eval.proofs.laws.one_fresh.Goals as goal

pub returns : goal.returns
returns c = one_fresh
