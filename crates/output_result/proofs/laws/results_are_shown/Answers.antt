use Rattle.output_result.proofs.Shown.{output_shown}
use Rattle.output_result.proofs.laws.results_are_shown.Goals as goal

pub returns : goal.returns
returns c = output_shown
