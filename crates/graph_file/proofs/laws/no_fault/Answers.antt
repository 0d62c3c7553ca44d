use Rattle.graph_file.proofs.OneForm.{none-told}
use Rattle.graph_file.proofs.laws.no_fault.Goals as goal

pub returns : goal.returns
returns c = none-told
