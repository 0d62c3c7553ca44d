use Rattle.graph_file.proofs.OneForm.{one-told}
use Rattle.graph_file.proofs.laws.one_fault.Goals as goal

pub returns : goal.returns
returns c = one-told
