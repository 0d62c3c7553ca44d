use Rattle.std.proofs.Common.{◌≡◌, ◌<◌, ℕ, Some, length}
use Rattle.std.specs.List.{slice_get}
use Rattle.graph_file.specs.Needed.{kinds_of}
use Rattle.graph_file.specs.Says.{names_of}
use Rattle.graph_file.specs.declared.graph.Node.{Node}
use Rattle.graph_file.proofs.needed.marked_nodes.Given as goal

-- the nodes before the place are marked
abbrev pub invariant-loop-place : goal.invariant-loop-place
invariant-loop-place l = record {
  counted : length l.nodes.items ≡ length l.fn.nodes.items;
  names : names_of l.nodes.items ≡ names_of l.fn.nodes.items;
  kinds : kinds_of l.nodes.items ≡ kinds_of l.fn.nodes.items;
  marks : (k : ℕ) (node : Node) → k < l.place → slice_get l.nodes.items k ≡ Some node → slice_get l.flags k ≡ Some node.needed;
}
