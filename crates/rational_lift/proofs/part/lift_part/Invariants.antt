use Rattle.std.proofs.Common.{◌+◌, length}
use Rattle.rational_lift.proofs.Going.{Going}
use Rattle.rational_lift.proofs.part.lift_part.Given as goal

abbrev pub invariant-loop-mono : goal.invariant-loop-mono
invariant-loop-mono l = Going l.coeff l.first l.second l.left l.right l.lifted

abbrev pub decreases-loop-mono : goal.decreases-loop-mono
decreases-loop-mono l = length l.left + length l.right
