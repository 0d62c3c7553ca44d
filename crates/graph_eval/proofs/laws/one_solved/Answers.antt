-- The law, for every system.
use Rattle.elim_core.proofs.OwnSets.{solved_once}
use Rattle.graph_eval.proofs.laws.one_solved.Goals as goal

pub returns : goal.returns
returns c = solved_once
