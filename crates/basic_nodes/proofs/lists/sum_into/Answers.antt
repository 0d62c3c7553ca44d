use Rattle.std.proofs.Common.{rules}
use Rattle.basic_nodes.proofs.Plain.{summed-two}
use Rattle.basic_nodes.proofs.lists.sum_into.Goals as goal

pub returns-clause-sum : goal.returns-clause-sum
returns-clause-sum c = summed-two _ _ _ _ (search rules) (λ k low. c.loop-k.invariant.done k (search rules))
