-- The memos of the graphs so far, and their words.
use Rattle.std.proofs.Common.{◌≡◌, ◌+◌, ◌*◌, ◌≤◌, drop}
use Rattle.graph_eval.specs.Memos.{AreFrames}
use Rattle.graph_eval.specs.Needs.{graphs_kept}
use Rattle.graph_eval.proofs.frames.frames_of.Given as goal

abbrev pub invariant-loop-graph : goal.invariant-loop-graph
invariant-loop-graph l = record {
  frames : AreFrames l.graphs l.learned l.frames.items l.end;
  words : l.end + graphs_kept l.graphs l.learned (drop l.graph-index l.graphs) ≡ graphs_kept l.graphs l.learned l.graphs;
  bound : l.end ≤ l.graph-index * 17592186073088;
}
