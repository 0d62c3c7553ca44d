-- So many empty sets.
use Rattle.graph_eval.specs.Learned.{AreEmpty}
use Rattle.graph_eval.proofs.lengths.no_sets.Given as goal

abbrev pub invariant-loop-node : goal.invariant-loop-node
invariant-loop-node l = AreEmpty l._node l.sets
