-- The unknowns so far are written.
use Rattle.std.proofs.Common.{◌≡◌, ◌++◌, take}
use Rattle.flow_program.specs.Lessons.{further}
use Rattle.flow_program.proofs.lessons.push_unknowns.Given as goal

abbrev pub invariant-loop-unknown : goal.invariant-loop-unknown
invariant-loop-unknown l = l.text.items ≡ l.initial.text.items ++ further (take l.unknown-index l.unknowns)
