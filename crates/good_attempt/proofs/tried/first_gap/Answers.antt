-- A row that tells no node has values.
use Rattle.std.proofs.Common.{arith}
use Rattle.good_attempt.proofs.Columns.{all_defined, defined_more}
use Rattle.good_attempt.proofs.tried.first_gap.Goals as goal

pub loop-i-preserved : goal.loop-i-preserved
loop-i-preserved c = defined_more c.args.samples.now c.loop-i.i c.in_default.ensures.none.0 c.loop-i.invariant c.in_default.ensures.none.1

pub returns-clause-none : goal.returns-clause-none
returns-clause-none c = all_defined c.args.samples.now c.loop-i.i c.loop-i.invariant (omega (arith, c.loop-i-test.false, c.loop-i.auto.i-end, c.len-i-end.ensures))
