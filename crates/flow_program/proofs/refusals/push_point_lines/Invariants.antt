-- With the lines of the points that are left, all lines would be there.
use Rattle.std.proofs.Common.{◌≡◌, ◌++◌, drop}
use Rattle.flow_program.specs.Refusals.{node_names, point_lines}
use Rattle.flow_program.proofs.refusals.push_point_lines.Given as goal

abbrev pub invariant-loop-q : goal.invariant-loop-q
invariant-loop-q l = l.text.items ++ point_lines (node_names l.graph) l.q (drop l.q l.first) ≡ l.initial.text.items ++ point_lines (node_names l.graph) 0 l.first
