-- The words of the graphs so far, with those of the graphs behind them, are all.
use Rattle.std.proofs.Common.{◌≡◌, ◌+◌, ◌*◌, ◌≤◌, drop}
use Rattle.graph_eval.specs.Needs.{graphs_kept}
use Rattle.graph_eval.proofs.frames.kept_words.Given as goal

abbrev pub invariant-loop-graph : goal.invariant-loop-graph
invariant-loop-graph l = record {
  words : l.kept + graphs_kept l.graphs l.learned (drop l.graph-index l.graphs) ≡ graphs_kept l.graphs l.learned l.graphs;
  bound : l.kept ≤ l.graph-index * 17592186073088;
}
