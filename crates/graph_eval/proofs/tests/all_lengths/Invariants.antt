-- The graphs so far have their lengths.
use Rattle.graph_eval.specs.Learned.{FitsFirst}
use Rattle.graph_eval.proofs.tests.all_lengths.Given as goal

abbrev pub invariant-loop-number : goal.invariant-loop-number
invariant-loop-number l = FitsFirst l.job.graphs l.learned l.number
