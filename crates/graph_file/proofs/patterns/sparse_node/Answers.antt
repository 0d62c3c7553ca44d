use Rattle.graph_file.proofs.PartLemmas.{sparse-few}
use Rattle.graph_file.proofs.patterns.sparse_node.Goals as goal

pub returns-in_default : goal.returns-in_default
returns-in_default c = sparse-few c.args.words.now c.in_default.len_below
