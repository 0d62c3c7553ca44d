-- So many places without a plan.
use Rattle.graph_eval.specs.Learned.{AreNone}
use Rattle.graph_eval.proofs.lengths.no_plans.Given as goal

abbrev pub invariant-loop-node : goal.invariant-loop-node
invariant-loop-node l = AreNone l._node l.plans
