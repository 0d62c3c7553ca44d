-- With the lines of the nodes that are left, all lines would be there.
use Rattle.std.proofs.Common.{◌≡◌, ◌++◌, drop}
use Rattle.flow_program.specs.Lessons.{node_lines}
use Rattle.flow_program.proofs.lessons.push_nodes.Given as goal

abbrev pub invariant-loop-place : goal.invariant-loop-place
invariant-loop-place l = l.text.items ++ node_lines (drop l.place l.nodes) (drop l.place l.sets) ≡ l.initial.text.items ++ node_lines l.nodes l.sets
