use Rattle.std.proofs.Common.{take}
use Rattle.multivar_recon.specs.Frame.{AreDirectionAxes}
use Rattle.multivar_recon.proofs.ray_frame.direction_axes.Given as goal

abbrev pub invariant-loop-k : goal.invariant-loop-k
invariant-loop-k l = AreDirectionAxes 2 (take l.k l.slopes) (take l.k l.each) l.axes.items
