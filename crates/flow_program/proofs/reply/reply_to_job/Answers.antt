-- The answer of the job follows from what learning its graphs gave.
use Rattle.graph_file.specs.Says.{form}
use Rattle.flow_program.specs.Reply.{answer_of}
use Rattle.flow_program.proofs.FunctionLaws.{learned_reply}
use Rattle.flow_program.proofs.JobLaws.{unlearned_job}
use Rattle.flow_program.proofs.reply.reply_to_job.Goals as goal

pub returns-in-Ok-clause-answer : goal.returns-in-Ok-clause-answer
returns-in-Ok-clause-answer g c =
    let job = c.args.job.now in
    learned_reply c.reply_to_learned.result c.args.task (form job) job.need c.in-Ok.learned c.requires.need (λ prime. c.in-Ok.ensures.told prime.first) c.reply_to_learned.ensures.answer

pub returns-in_ok-reply_to_unlearned-in-Err-clause-answer : goal.returns-in_ok-reply_to_unlearned-in-Err-clause-answer
returns-in_ok-reply_to_unlearned-in-Err-clause-answer g c = λ prime.
    let job = c.args.job.now in
    unlearned_job c.args.task (form job) job.need c.in-Err.why (answer_of c.in_ok-reply_to_unlearned-in-Err.field-0) c.requires.need (c.in-Err.ensures.told prime.first) c.in_ok-reply_to_unlearned-in-Err.ensures.answer
