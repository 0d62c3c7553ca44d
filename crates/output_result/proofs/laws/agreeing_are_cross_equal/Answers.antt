use Rattle.output_result.proofs.Single.{found_cross}
use Rattle.output_result.proofs.laws.agreeing_are_cross_equal.Goals as goal

pub returns : goal.returns
returns c = found_cross
