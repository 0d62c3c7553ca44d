use Rattle.rational_lift.proofs.Candidates.{unit_test}
use Rattle.rational_lift.proofs.recovery.is_unit.Goals as goal

pub returns : goal.returns
returns c = unit_test c.args.m c.args.a _ _ c.requires.more c.candidate.ensures.num c.candidate.ensures.tied c.candidate.ensures.no_unit
