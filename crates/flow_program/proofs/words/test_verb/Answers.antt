-- One more word is met, or admitted words don't go on so.
use Rattle.std.proofs.Common.{◌≡◌, ℕ, ◌+◌, Some, None, drop, length, sym, subst, ◌∙◌, arith}
use Rattle.std.specs.Prelude.{string_bytes}
use Rattle.flow_program.specs.Words.{texts}
use Rattle.flow_program.specs.Parsed.{nothing_given, parsed_from, met_with}
use Rattle.flow_program.proofs.WordsLaws.{HasMet, met_more, met_no_more, words_at}
use Rattle.flow_program.proofs.words.test_verb.Goals as goal

pub returns-in_default : goal.returns-in_default
returns-in_default c =
    let words = c.args.words.now in
    let i = c.loop-index.index in
    let met = c.loop-index.met in
    let word = c.index-words-index.result in
    let found = parsed_from c.args.verb 2 nothing_given (texts words) in
    let here = subst (HasMet c.args.verb met found (i + 2)) (words_at words i word c.loop-index-test.true c.index-words-index.is) c.loop-index.invariant in
    let none : met_with c.args.verb met.workers met (string_bytes word) ≡ None = cc in
    met_no_more c.args.verb met found (i + 2) (string_bytes word) (texts (drop (i + 1) words)) here none

pub loop-index-preserved : goal.loop-index-preserved
loop-index-preserved c =
    let words = c.args.words.now in
    let i = c.loop-index.index in
    let met = c.loop-index.met in
    let word = c.index-words-index.result in
    let found = parsed_from c.args.verb 2 nothing_given (texts words) in
    let here = subst (HasMet c.args.verb met found (i + 2)) (words_at words i word c.loop-index-test.true c.index-words-index.is) c.loop-index.invariant in
    let some : met_with c.args.verb met.workers met (string_bytes word) ≡ Some c.in-Some.next = cc in
    subst (λ (k : ℕ). HasMet c.args.verb c.in-Some.next found k (texts (drop (i + 1) words))) (omega arith)
    (met_more c.args.verb met found (i + 2) (string_bytes word) (texts (drop (i + 1) words)) c.in-Some.next here some)
