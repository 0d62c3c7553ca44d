-- A file that is read has the answer of its bytes, and one that is too long that of a long file.
use Rattle.std.proofs.Common.{length, ap, arith, ◌∙◌}
use Rattle.flow_program.specs.Reply.{answer_of}
use Rattle.flow_program.proofs.RunLaws.{long_file, read_file}
use Rattle.flow_program.proofs.top.answer_file.Goals as goal

pub returns-in_ok-reply_to_long_file-in-Err-TooLong-clause-right : goal.returns-in_ok-reply_to_long_file-in-Err-TooLong-clause-right
returns-in_ok-reply_to_long_file-in-Err-TooLong-clause-right g c =
    long_file c.args.task ((g.H.Shelf.view c.args.shelf.now).files c.args.file.now) (g.H.Shelf.view c.open.new.self) (g.H.Shelf.view c.read_all.new.shelf)
    (answer_of c.in_ok-reply_to_long_file-in-Err-TooLong.field-0)
    c.in-Ok.ensures.whole (c.in-Err-TooLong.ensures.too_long (cc)) (c.in-Err-TooLong.ensures.rest_too_long (cc)) c.in_ok-reply_to_long_file-in-Err-TooLong.ensures.answer

pub returns-in_ok-reply_to_file-in-Ok-read_all-clause-right : goal.returns-in_ok-reply_to_file-in-Ok-read_all-clause-right
returns-in_ok-reply_to_file-in-Ok-read_all-clause-right g c =
    let bytes = c.as_slice.result.now in
    let answer = answer_of c.in_ok-reply_to_file-in-Ok-read_all.field-0 in
    let told = (g.H.Shelf.view c.args.shelf.now).files c.args.file.now in
    let opened = (g.H.Shelf.view c.open.new.self).rest in
    read_file c.args.task told opened bytes answer c.in-Ok.ensures.whole
    (λ rest is. c.as_slice.ensures.value ∙ c.in-Ok-read_all.ensures.whole rest is) (omega (arith, ap length c.as_slice.ensures.value, c.in-Ok-read_all.ensures.fits)) c.in_ok-reply_to_file-in-Ok-read_all.ensures.answer
    c.in_ok-reply_to_file-in-Ok-read_all.ensures.bad_line
