use Rattle.rational_lift.proofs.Lifts.{one_lift}
use Rattle.rational_lift.proofs.laws.one_lift.Goals as goal

pub returns : goal.returns
returns c = one_lift
