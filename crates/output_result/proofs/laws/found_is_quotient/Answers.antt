use Rattle.output_result.proofs.Quotients.{found_quotient}
use Rattle.output_result.proofs.laws.found_is_quotient.Goals as goal

pub returns : goal.returns
returns c = found_quotient
