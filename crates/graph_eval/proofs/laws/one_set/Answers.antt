-- The laws, for every system.
use Rattle.elim_core.proofs.OwnSets.{own_set_once}
use Rattle.graph_eval.proofs.laws.one_set.Goals as goal

pub returns-clause-once : goal.returns-clause-once
returns-clause-once c = own_set_once
