use Rattle.graph_file.proofs.PartLemmas.{matmul-few}
use Rattle.graph_file.proofs.patterns.matmul_node.Goals as goal

pub returns-in_default : goal.returns-in_default
returns-in_default c = matmul-few c.args.words.now c.in_default.len_below
