use Rattle.std.proofs.Common.{rules}
use Rattle.basic_nodes.proofs.Plain.{multiplied-two}
use Rattle.basic_nodes.proofs.lists.product_into.Goals as goal

pub returns-clause-product : goal.returns-clause-product
returns-clause-product c = multiplied-two _ _ _ _ (search rules) (λ k low. c.loop-k.invariant.done k (search rules))
