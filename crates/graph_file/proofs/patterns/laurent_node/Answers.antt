use Rattle.graph_file.proofs.PartLemmas.{laurent-few}
use Rattle.graph_file.proofs.patterns.laurent_node.Goals as goal

pub returns-in_default : goal.returns-in_default
returns-in_default c = laurent-few c.args.words.now c.in_default.len_below
