use Rattle.std.proofs.Common.{rules, tests, ap, ◌∙◌, length, unwrap_or, bytes_eq, codes}
use Rattle.std.proofs.lemmas.Iterator.{YieldsList-from_slice}
use Rattle.std.proofs.lemmas.Iterator.Search.{position_from_yields_List}
use Rattle.graph_file.proofs.CutLemmas.{unwrap_or-position, position_or_len-map}
use Rattle.graph_file.proofs.patterns.den_place.Goals as goal

pub returns-clause-value : goal.returns-clause-value
returns-clause-value c =
    c.unwrap_or.ensures ∙ ap (λ o. unwrap_or o (length c.args.words.now))
    (position_from_yields_List (λ word. bytes_eq word.now (codes "den")) _ _ _ c.position.ensures.ran (YieldsList-from_slice c.args.words.now c.iter.ensures.rest) (λ x b q k. search (rules, tests)))
    ∙ unwrap_or-position (λ word. bytes_eq word.now (codes "den")) c.args.words.now
    ∙ position_or_len-map (λ word. bytes_eq word (codes "den")) (λ word. word.now) c.args.words.now
