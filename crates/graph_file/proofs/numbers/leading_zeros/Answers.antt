use Rattle.std.proofs.Common.{rules, tests, ap, ◌∙◌, ◌==◌, not, length, unwrap_or}
use Rattle.std.proofs.lemmas.Iterator.{YieldsList-from_slice}
use Rattle.std.proofs.lemmas.Iterator.Search.{position_from_yields_List}
use Rattle.graph_file.proofs.CutLemmas.{unwrap_or-position}
use Rattle.graph_file.proofs.numbers.leading_zeros.Goals as goal

pub returns-clause-value : goal.returns-clause-value
returns-clause-value c =
    c.unwrap_or.ensures ∙ ap (λ o. unwrap_or o (length c.args.digits.now))
    (position_from_yields_List (λ digit. not (digit == 48)) _ _ _ c.position.ensures.ran (YieldsList-from_slice c.args.digits.now c.iter.ensures.rest) (λ x b q k. search (rules, tests)))
    ∙ unwrap_or-position (λ digit. not (digit == 48)) c.args.digits.now
