use Rattle.graph_file.proofs.OneForm.{one-form}
use Rattle.graph_file.proofs.laws.one_form.Goals as goal

pub returns : goal.returns
returns c = one-form
