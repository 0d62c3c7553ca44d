use Rattle.multivar_recon.specs.Frame.{AreSteps}
use Rattle.multivar_recon.proofs.ray_frame.steps_from.Given as goal

abbrev pub invariant-loop-k : goal.invariant-loop-k
invariant-loop-k l = AreSteps l.first l.k l.steps.items
