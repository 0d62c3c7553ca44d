-- There are the lines of the rows so far.
use Rattle.std.proofs.Common.{◌≡◌, ◌++◌, take}
use Rattle.std.specs.List.{flat_map}
use Rattle.flow_program.specs.Refusals.{node_names}
use Rattle.flow_program.specs.Sampled.{outcome_line}
use Rattle.flow_program.proofs.sampling.push_rows.Given as goal

abbrev pub invariant-loop-i : goal.invariant-loop-i
invariant-loop-i l = l.text.items ≡ l.initial.text.items ++ flat_map (outcome_line (node_names l.graph)) (take l.i l.rows)
