-- The graph has no value at its learning points so far.
use Rattle.std.proofs.Common.{◌≡◌, length, Some}
use Rattle.std.specs.Prelude.{slice_get}
use Rattle.graph_file.specs.declared.graph.Graph.{Graph}
use Rattle.learn_phase.proofs.Trying.{HasTried}
use Rattle.learn_phase.proofs.solvers.learn_at_points.Given as goal

abbrev pub invariant-loop-q : goal.invariant-loop-q
invariant-loop-q l = record {
  long : length l.first ≡ 8;
  tried : (graph : Graph) → slice_get l.job.graphs l.graph ≡ Some graph → HasTried (record { graphs = l.job.graphs; learned = l.learned; number = l.graph }) graph l.q l.first;
}
