-- So many words are enough for the graphs so far.
use Rattle.graph_eval.proofs.Room.{EnoughSoFar}
use Rattle.graph_eval.proofs.systems.work_for.Given as goal

abbrev pub invariant-loop-graph : goal.invariant-loop-graph
invariant-loop-graph l = EnoughSoFar l.graphs l.graph-index l.most
