use Rattle.std.proofs.Common.{arith}
use Rattle.univariate.proofs.Places.{alike-multiplied}
use Rattle.univariate.proofs.lists.scale.Goals as goal

pub returns-clause-multiple : goal.returns-clause-multiple
returns-clause-multiple c =
    alike-multiplied _ c.args.factor c.loop-coefficient.coefficient-index c.args.coefficients.now c.loop-coefficient.coefficients (omega arith) c.loop-coefficient.invariant.done c.loop-coefficient.invariant.rest
