use Rattle.std.proofs.Common.{◌≤◌, length}
use Rattle.graph_file.specs.Marks.{AreMarkedFrom}
use Rattle.graph_file.specs.Needed.{kinds_of}
use Rattle.graph_file.proofs.needed.marks.Given as goal

-- the flags are as the nodes from the place on show them
abbrev pub invariant-loop-place : goal.invariant-loop-place
invariant-loop-place l = record {
  within : l.place ≤ length l.nodes;
  flags : AreMarkedFrom (kinds_of l.nodes) l.output l.place l.flags.items;
}

-- the nodes that are left
abbrev pub decreases-loop-place : goal.decreases-loop-place
decreases-loop-place l = l.place
