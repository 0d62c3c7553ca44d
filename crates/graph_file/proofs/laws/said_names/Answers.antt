use Rattle.graph_file.proofs.SaidNames.{names-of-said}
use Rattle.graph_file.proofs.laws.said_names.Goals as goal

pub returns : goal.returns
returns c = names-of-said
