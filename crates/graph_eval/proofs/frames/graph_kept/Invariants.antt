-- The words of the nodes so far, with those of the nodes behind them, are all.
use Rattle.std.proofs.Common.{◌≡◌, ◌+◌, ◌*◌, ◌≤◌, drop}
use Rattle.graph_eval.specs.Needs.{nodes_kept}
use Rattle.graph_eval.proofs.frames.graph_kept.Given as goal

abbrev pub invariant-loop-node : goal.invariant-loop-node
invariant-loop-node l = record {
  words : l.kept + nodes_kept l.graphs l.learned (drop l.node-index l.graph.nodes) ≡ nodes_kept l.graphs l.learned l.graph.nodes;
  bound : l.kept ≤ l.node-index * 4294967303;
}
