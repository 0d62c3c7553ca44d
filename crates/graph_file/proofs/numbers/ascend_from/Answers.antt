use Rattle.std.proofs.Common.{◌∙◌, sym, []}
use Rattle.graph_file.proofs.Less.{ascend-step, ascend-stop}
use Rattle.graph_file.proofs.numbers.ascend_from.Goals as goal

pub loop-word-preserved : goal.loop-word-preserved
loop-word-preserved c = c.loop-word.invariant ∙ ascend-step c.loop-word.before.now c.args.later.now c.loop-word.word-index (record { ref_ptr = (0, 0); now = [] }) c.loop-word-test.true (sym c.are_less.ensures ∙ c.if-not-are_less.false)

pub returns-then-not-are_less : goal.returns-then-not-are_less
returns-then-not-are_less c = sym (c.loop-word.invariant ∙ ascend-stop c.loop-word.before.now c.args.later.now c.loop-word.word-index (record { ref_ptr = (0, 0); now = [] }) c.loop-word-test.true (sym c.are_less.ensures ∙ c.if-not-are_less.true))
