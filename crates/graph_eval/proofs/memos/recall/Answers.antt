-- The words that were compared are the kept inputs and those on top.
use Rattle.std.proofs.Common.{◌≡◌, ◌+◌, ◌-◌, drop, length, rules, slice_range, sym, take, ◌∙◌, ap}
use Rattle.std.proofs.lemmas.List.{take_rest}
use Rattle.graph_eval.proofs.memos.recall.Goals as goal

pub returns-clause-same : goal.returns-clause-same
returns-clause-same c = λ yes.
    let at = c.args.frame.at in
    let end = c.args.frame.at + c.args.frame.inputs in
    let words = c.words.result.now in
    let same : slice_range c.kept-kept.result.now at end ≡ take (length words - c.args.base) (drop c.args.base words) = search rules in
    ap (λ kept. slice_range kept at end) (sym c.kept-kept.ensures) ∙ same ∙ take_rest words c.args.base ∙ ap (drop c.args.base) c.words.ensures
