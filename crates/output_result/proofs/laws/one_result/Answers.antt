use Rattle.output_result.proofs.Single.{one_result}
use Rattle.output_result.proofs.laws.one_result.Goals as goal

pub returns : goal.returns
returns c = one_result
