use Rattle.std.proofs.Common.{◌≡◌, length, not, position, rules, tests, ap, ◌∙◌, drop}
use Rattle.std.specs.List.{position_or_len}
use Rattle.std.specs.Option.{unwrap_or}
use Rattle.std.proofs.lemmas.Iterator.{YieldsList-from_slice}
use Rattle.std.proofs.lemmas.Iterator.Search.{position_from_yields_List}
use Rattle.std.proofs.lemmas.List.{take_rest}
use Rattle.ratfun_text.specs.Bytes.{is_blank}
use Rattle.ratfun_text.proofs.Texts.{unwrap_or-position}
use Rattle.ratfun_text.proofs.bytes.trim_start.Goals as goal

pub returns : goal.returns
returns c =
    let text = c.args.text.now in
    let found : c.position-start.result ≡ position (λ byte. not (is_blank byte)) text = position_from_yields_List (λ byte. not (is_blank byte)) _ _ c.position-start.result c.position-start.ensures.ran (YieldsList-from_slice text cc) (λ x b q k. search (rules, tests)) in
    let start : c.unwrap_or.result ≡ position_or_len (λ byte. not (is_blank byte)) text = c.unwrap_or.ensures ∙ ap (λ o. unwrap_or o (length text)) found ∙ unwrap_or-position _ text in
    take_rest text c.unwrap_or.result ∙ ap (λ k. drop k text) start
