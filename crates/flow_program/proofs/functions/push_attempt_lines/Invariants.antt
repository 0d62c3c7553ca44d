-- With the lines of the attempts that are left, all lines would be there.
use Rattle.std.proofs.Common.{◌≡◌, ◌++◌, drop}
use Rattle.flow_program.specs.Reconstructed.{attempt_lines}
use Rattle.flow_program.specs.Refusals.{node_names}
use Rattle.flow_program.proofs.functions.push_attempt_lines.Given as goal

abbrev pub invariant-loop-attempt : goal.invariant-loop-attempt
invariant-loop-attempt l = l.text.items ++ attempt_lines (node_names l.graph) l.attempt (drop l.attempt l.gaps) ≡ l.initial.text.items ++ attempt_lines (node_names l.graph) 0 l.gaps
