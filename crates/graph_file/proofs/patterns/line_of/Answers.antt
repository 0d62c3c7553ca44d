use Rattle.graph_file.proofs.Formed.{said-formed}
use Rattle.graph_file.proofs.patterns.line_of.Goals as goal

pub returns-clause-formed : goal.returns-clause-formed
returns-clause-formed c = said-formed c.args.line.now c.in_ok-said.said c.in_ok-said.ensures
