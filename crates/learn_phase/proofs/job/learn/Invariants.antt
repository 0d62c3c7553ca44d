-- The graphs so far are learned.
use Rattle.prime_field.specs.Residue.{IsPrime}
use Rattle.graph_eval.specs.Learned.{FitsFirst}
use Rattle.learn_phase.specs.LearnedSets.{FirstLearn, learning_modulus}
use Rattle.learn_phase.proofs.job.learn.Given as goal

abbrev pub invariant-loop-graph : goal.invariant-loop-graph
invariant-loop-graph l = record {
  fits : FitsFirst l.job.graphs l.learned l.graph;
  first : IsPrime learning_modulus → FirstLearn l.job.graphs l.learned l.graph;
}
