use Rattle.std.proofs.Common.{arith}
use Rattle.rational_lift.proofs.Ties.{tied-residue}
use Rattle.rational_lift.proofs.recovery.recover.Goals as goal

pub returns-then-is_unit-clause-some : goal.returns-then-is_unit-clause-some
returns-then-is_unit-clause-some c = record {
  lowest = c.is_lowest.ensures.0 c.if-is_lowest.true;
  num = c.candidate-fraction.ensures.num;
  den = omega (arith, c.if-fraction-d.true);
  unit = c.is_unit.ensures.0 c.if-is_unit.true;
  residue = tied-residue c.args.m c.args.c _ (omega (arith, c.requires.residue)) c.requires.residue (c.is_unit.ensures.0 c.if-is_unit.true) c.candidate-fraction.ensures.tied;
}
