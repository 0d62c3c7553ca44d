use Rattle.output_result.proofs.Lines.{printed_found}
use Rattle.output_result.proofs.laws.printed_is_found.Goals as goal

pub returns : goal.returns
returns c = printed_found c.one_quotient.ensures
