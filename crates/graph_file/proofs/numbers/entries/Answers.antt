use Rattle.std.proofs.Common.{[], sym, ◌∙◌, arith}
use Rattle.graph_file.specs.Line.{entry_of}
use Rattle.graph_file.proofs.AllOf.{word-there, word-missing}
use Rattle.graph_file.proofs.numbers.entries.Goals as goal

pub returns-in_default : goal.returns-in_default
returns-in_default c = word-missing entry_of c.args.words.now c.loop-word.word-index (record { ref_ptr = (0, 0); now = [] }) (omega arith) c.loop-word.all c.loop-word.invariant (sym c.entry.ensures ∙ c.in_default.is)

pub loop-word-preserved : goal.loop-word-preserved
loop-word-preserved c = word-there entry_of c.args.words.now c.loop-word.word-index (record { ref_ptr = (0, 0); now = [] }) (omega arith) c.loop-word.all c.loop-word.invariant _ c.in-Some.entry (sym c.entry.ensures ∙ c.in-Some.is) c.in_ok-push.ensures.ok
