-- The row tells its node.
use Rattle.std.proofs.Common.{rules}
use Rattle.parallel_sampler.proofs.row.Row.values.Goals as goal

pub returns-in-Some-Singular-clause-none : goal.returns-in-Some-Singular-clause-none
returns-in-Some-Singular-clause-none c = (c.in-Some-Singular.field-0-0.node, c.in-Some-Singular.field-0-0.cause, search rules)
