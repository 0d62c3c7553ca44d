-- A count that was found is read as the number that it is.
use Rattle.std.proofs.Common.{◌≡◌, Some, sym, ◌∙◌}
use Rattle.std.specs.Str.Parse.{ParsesUnsigned, ExplainsUnsignedError, HasUnsignedDigitsIfOk}
use Rattle.clap.specs.Words.{found_of, rows_of}
use Rattle.clap.proofs.WalkLemmas.{one_text-rows}
use Rattle.flow_program.proofs.LineLaws.{HasCount, count_given, count_is_at, has_count, some_is}
use Rattle.flow_program.proofs.line.count_in.Goals as goal

pub unwrap-requires : goal.unwrap-requires
unwrap-requires c =
    let has = has_count c.args.id.now (rows_of (found_of c.args.matches.now)) c.requires in
    let read = c.get_one.ensures.value has.text (one_text-rows (found_of c.args.matches.now) c.args.id.now ∙ has.read) in
    some_is c.get_one.result has.number (count_given (λ bs r. ParsesUnsigned 32 10 bs r × ExplainsUnsignedError 10 bs r × HasUnsignedDigitsIfOk bs r) has.text has.number c.get_one.result (λ bs x g. g.0) has.counted read)

pub returns : goal.returns
returns c =
    let has = has_count c.args.id.now (rows_of (found_of c.args.matches.now)) c.requires in
    let read = c.get_one.ensures.value has.text (one_text-rows (found_of c.args.matches.now) c.args.id.now ∙ has.read) in
    let got = count_given (λ bs r. ParsesUnsigned 32 10 bs r × ExplainsUnsignedError 10 bs r × HasUnsignedDigitsIfOk bs r) has.text has.number c.get_one.result (λ bs x g. g.0) has.counted read in
    count_is_at c.args.id.now (rows_of (found_of c.args.matches.now)) has ∙ sym got ∙ c.unwrap.ensures
