-- What was learned of the nodes so far.
use Rattle.std.proofs.Common.{length}
use Rattle.prime_field.specs.Modulus.{value_of}
use Rattle.graph_eval.specs.GraphValue.{meanings}
use Rattle.graph_eval.specs.Learned.{sets_of}
use Rattle.graph_eval.proofs.FreshLaws.{LearnedStand}
use Rattle.graph_eval.proofs.LengthLaws.{PlansSoFar}
use Rattle.graph_eval.proofs.fresh.learn_graph.Given as goal

abbrev pub invariant-loop-place : goal.invariant-loop-place
invariant-loop-place l = record {
  stands : LearnedStand l.sizes (meanings (value_of l.m) l.graphs (sets_of l.learned) (length l.learned)) (value_of l.m) l.graph l.inputs l.sets.items l.lengths.items l.words.items l.places.items l.place l.total;
  plans : PlansSoFar l.graph.nodes l.sets.items l.plans.items l.place;
}
