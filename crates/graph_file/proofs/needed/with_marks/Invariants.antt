use Rattle.graph_file.specs.Marks.{MarksFirst}
use Rattle.graph_file.proofs.needed.with_marks.Given as goal

-- the flags of the lists before the index are set
abbrev pub invariant-loop-from : goal.invariant-loop-from
invariant-loop-from l = MarksFirst l.sources l.from-index l.fn.flags.items l.flags.items
