use Rattle.laurent_node.proofs.Expansions.{expansions_same}
use Rattle.laurent_node.proofs.one_expansion.Goals as goal

pub returns : goal.returns
returns c = expansions_same
