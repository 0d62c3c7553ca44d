-- The memos of the nodes so far, and their words.
use Rattle.std.proofs.Common.{◌≡◌, ◌+◌, ◌*◌, ◌≤◌, drop}
use Rattle.graph_eval.specs.Memos.{AreFrames}
use Rattle.graph_eval.specs.Needs.{nodes_kept}
use Rattle.graph_eval.proofs.frames.add_frames.Given as goal

abbrev pub invariant-loop-node : goal.invariant-loop-node
invariant-loop-node l = record {
  frames : AreFrames l.graphs l.learned l.frames.items l.end;
  words : l.end + nodes_kept l.graphs l.learned (drop l.node-index l.graph.nodes) ≡ l.at + nodes_kept l.graphs l.learned l.graph.nodes;
  bound : l.end ≤ l.at + l.node-index * 4294967303;
}
