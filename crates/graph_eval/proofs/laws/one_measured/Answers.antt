-- The law, for every graph.
use Rattle.graph_eval.proofs.OneLength.{one_measured}
use Rattle.graph_eval.proofs.laws.one_measured.Goals as goal

pub returns : goal.returns
returns c = one_measured
