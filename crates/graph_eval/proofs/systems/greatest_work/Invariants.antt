-- The most so far and what is left give the most of all.
use Rattle.std.proofs.Common.{◌≡◌, drop}
use Rattle.std.specs.Prelude.{max}
use Rattle.graph_eval.specs.Systems.{greatest_work}
use Rattle.graph_eval.proofs.systems.greatest_work.Given as goal

abbrev pub invariant-loop-node : goal.invariant-loop-node
invariant-loop-node l = greatest_work l.graph.nodes ≡ max l.most (greatest_work (drop l.node-index l.graph.nodes))
