use Rattle.std.proofs.Common.{rules, tests, ap, ◌∙◌, length, unwrap_or}
use Rattle.std.proofs.lemmas.Iterator.{YieldsList-from_slice}
use Rattle.std.proofs.lemmas.Iterator.Search.{position_from_yields_List}
use Rattle.ratfun_text.specs.Bytes.{is_blank}
use Rattle.graph_file.proofs.CutLemmas.{unwrap_or-position}
use Rattle.graph_file.proofs.lines.word_end.Goals as goal

pub returns-clause-value : goal.returns-clause-value
returns-clause-value c =
    c.unwrap_or.ensures ∙ ap (λ o. unwrap_or o (length c.args.line.now))
    (position_from_yields_List is_blank _ _ _ c.position.ensures.ran (YieldsList-from_slice c.args.line.now c.iter.ensures.rest) (λ x b q k. search (rules, tests)))
    ∙ unwrap_or-position is_blank c.args.line.now
