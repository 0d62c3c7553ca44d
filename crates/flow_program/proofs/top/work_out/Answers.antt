-- The answer is that of the file that is named, or of the words, and a file that is learned is answered well.
use Rattle.flow_program.specs.Reply.{answer_of}
use Rattle.flow_program.specs.Words.{request, texts}
use Rattle.flow_program.proofs.RunLaws.{learned_answer, named_right, unnamed_right}
use Rattle.flow_program.proofs.top.work_out.Goals as goal

pub returns-in_ok-answer_command-in-Ok-clause-learned : goal.returns-in_ok-answer_command-in-Ok-clause-learned
returns-in_ok-answer_command-in-Ok-clause-learned g c =
    let words = texts c.args.words.now in
    let shelf = g.H.Shelf.view c.args.shelf.now in
    let answer = answer_of c.in_ok-answer_command-in-Ok.field-0 in
    learned_answer (record { answered = c.learned_files_are_answered.ensures }) words shelf answer
    (named_right words shelf (request c.in-Ok.command) answer c.in-Ok.ensures.asked c.in_ok-answer_command-in-Ok.ensures.right)

pub returns-in_ok-answer_command-in-Ok-clause-right : goal.returns-in_ok-answer_command-in-Ok-clause-right
returns-in_ok-answer_command-in-Ok-clause-right g c =
    named_right (texts c.args.words.now) (g.H.Shelf.view c.args.shelf.now) (request c.in-Ok.command) (answer_of c.in_ok-answer_command-in-Ok.field-0) c.in-Ok.ensures.asked c.in_ok-answer_command-in-Ok.ensures.right

pub returns-in_ok-reply_to_words-in-Err-Bad-clause-right : goal.returns-in_ok-reply_to_words-in-Err-Bad-clause-right
returns-in_ok-reply_to_words-in-Err-Bad-clause-right g c =
    unnamed_right (texts c.args.words.now) (g.H.Shelf.view c.args.shelf.now) c.in-Err-Bad.word (answer_of c.in_ok-reply_to_words-in-Err-Bad.field-0) (c.in-Err-Bad.ensures.bad c.in-Err-Bad.word (cc)) c.in_ok-reply_to_words-in-Err-Bad.ensures.answer
