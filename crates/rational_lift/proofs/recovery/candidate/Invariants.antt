use Rattle.rational_lift.proofs.Nearest.{Step}
use Rattle.rational_lift.proofs.recovery.candidate.Given as goal

abbrev pub invariant-loop-rest : goal.invariant-loop-rest
invariant-loop-rest l = Step l.m l.c l.n l.above l.rest l.earlier l.factor l.is_negative

abbrev pub decreases-loop-rest : goal.decreases-loop-rest
decreases-loop-rest l = l.rest
