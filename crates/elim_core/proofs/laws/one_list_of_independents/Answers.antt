use Rattle.elim_core.proofs.Sets.{independent_once}
use Rattle.elim_core.proofs.laws.one_list_of_independents.Goals as goal

pub returns : goal.returns
returns c = independent_once
