use Rattle.std.proofs.Common.{rules, tests}
use Rattle.std.proofs.lemmas.Iterator.Consumers.{map_from_collect}
use Rattle.std.proofs.lemmas.Iterator.Consumers.{YieldsList-from_filter}
use Rattle.std.proofs.lemmas.Iterator.Splits.{YieldsList-from_slice_split}
use Rattle.ratfun_text.specs.Bytes.{is_blank}
use Rattle.graph_file.specs.Lines.{is_word}
use Rattle.graph_file.proofs.lines.words.Goals as goal

pub returns : goal.returns
returns c =
    map_from_collect _ c.collect.ensures.ran (YieldsList-from_filter _ is_word (YieldsList-from_slice_split _ is_blank c.args.line.now (search rules) (search rules) c.split.ensures.closure (λ x r q k. search (rules, tests))) c.filter.ensures.closure (λ x r q k. search (rules, tests)))
