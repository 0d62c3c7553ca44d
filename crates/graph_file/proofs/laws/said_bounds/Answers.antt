use Rattle.graph_file.proofs.SaidBounds.{bounds-of-said}
use Rattle.graph_file.proofs.laws.said_bounds.Goals as goal

pub returns : goal.returns
returns c = bounds-of-said
