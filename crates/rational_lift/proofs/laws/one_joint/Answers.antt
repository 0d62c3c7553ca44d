use Rattle.std.proofs.Common.{◌∙◌, sym}
use Rattle.rational_lift.proofs.Joining.{joined_once}
use Rattle.rational_lift.proofs.laws.one_joint.Goals as goal

pub returns : goal.returns
returns c = λ residues a b first second. joined_once a b first.low second.low (λ m. first.leaves m ∙ sym (second.leaves m))
