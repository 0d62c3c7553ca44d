use Rattle.std.proofs.Common.{◌∙◌, sym}
use Rattle.graph_file.proofs.Less.{less-alike, less-apart}
use Rattle.graph_file.proofs.numbers.are_less.Goals as goal

pub returns : goal.returns
returns c =
    c.comes_before.ensures
    ∙ less-alike c.args.first.now c.args.second.now c.significant-first.result.now c.significant-second.result.now (sym c.is_digits.ensures ∙ c.if-not-is_digits.false) (sym c.is_digits-2.ensures ∙ c.if-not-is_digits-2.false) c.significant-first.ensures c.significant-second.ensures c.if-first-second.false

pub returns-then-first-second : goal.returns-then-first-second
returns-then-first-second c = less-apart c.args.first.now c.args.second.now c.significant-first.result.now c.significant-second.result.now (sym c.is_digits.ensures ∙ c.if-not-is_digits.false) (sym c.is_digits-2.ensures ∙ c.if-not-is_digits-2.false) c.significant-first.ensures c.significant-second.ensures c.if-first-second.true
