use Rattle.graph_file.proofs.SaidNames.{covers-of-said}
use Rattle.graph_file.proofs.laws.said_grid.Goals as goal

pub returns : goal.returns
returns c = covers-of-said
