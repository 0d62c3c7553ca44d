use Rattle.std.proofs.Common.{arith}
use Rattle.elim_core.proofs.Choices.{index-has_number}
use Rattle.sparse_solver.proofs.Turns.{not_in}
use Rattle.sparse_solver.proofs.learned.is_in.Goals as goal

pub returns-then-other-number-clause-chosen : goal.returns-then-other-number-clause-chosen
returns-then-other-number-clause-chosen c =
    index-has_number c.args.set.now c.loop-other.other-index c.args.number c.loop-other-test.true c.if-other-number.true

pub returns-clause-other : goal.returns-clause-other
returns-clause-other c = not_in c.args.set.now c.args.number (λ i low. c.loop-other.invariant i (omega (arith, low, c.loop-other-test.false)))
