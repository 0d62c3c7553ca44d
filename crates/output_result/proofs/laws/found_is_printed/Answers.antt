use Rattle.output_result.proofs.Lines.{found_printed}
use Rattle.output_result.proofs.laws.found_is_printed.Goals as goal

pub returns : goal.returns
returns c = found_printed
