use Rattle.graph_file.proofs.PartLemmas.{dense-few}
use Rattle.graph_file.proofs.patterns.dense_node.Goals as goal

pub returns-in_default : goal.returns-in_default
returns-in_default c = dense-few c.args.words.now c.in_default.len_below
