use Rattle.ratfun_text.proofs.Machine.{one_tree}
use Rattle.ratfun_text.proofs.parse.one_tree.Goals as goal

pub returns : goal.returns
returns c = one_tree
