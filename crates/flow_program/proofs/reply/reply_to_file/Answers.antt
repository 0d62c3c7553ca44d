-- The answer of the bytes is that of the job that they say, or tells their bad line.
use Rattle.graph_file.specs.Says.{form}
use Rattle.flow_program.specs.Reply.{answer_of}
use Rattle.flow_program.proofs.RunLaws.{bad_answer, bad_status, good_file, good_status, read_well}
use Rattle.flow_program.proofs.reply.reply_to_file.Goals as goal

pub returns-in_ok-reply_to_job-in-Ok-clause-answer : goal.returns-in_ok-reply_to_job-in-Ok-clause-answer
returns-in_ok-reply_to_job-in-Ok-clause-answer g c =
    let bytes = c.args.bytes.now in
    let said = form c.in-Ok.job in
    read_well c.args.task bytes said (answer_of c.in_ok-reply_to_job-in-Ok.field-0)
    (good_file c.args.task c.need_of.result bytes said c.need_of.ensures c.in-Ok.ensures.ok c.no_fault.ensures) c.in_ok-reply_to_job-in-Ok.ensures.answer

pub returns-in_ok-reply_to_job-in-Ok-clause-bad_line : goal.returns-in_ok-reply_to_job-in-Ok-clause-bad_line
returns-in_ok-reply_to_job-in-Ok-clause-bad_line g c =
    let bytes = c.args.bytes.now in
    let said = form c.in-Ok.job in
    good_status c.args.task bytes said c.in_ok-reply_to_job-in-Ok.field-0.status
    (good_file c.args.task c.need_of.result bytes said c.need_of.ensures c.in-Ok.ensures.ok c.no_fault.ensures) c.in_ok-reply_to_job-in-Ok.ensures.status

pub returns-in_ok-reply_to_bad_line-in-Err-clause-answer : goal.returns-in_ok-reply_to_bad_line-in-Err-clause-answer
returns-in_ok-reply_to_bad_line-in-Err-clause-answer g c =
    let told = c.in_ok-reply_to_bad_line-in-Err.ensures in
    bad_answer c.args.task c.need_of.result c.args.bytes.now c.in-Err.field-0.line c.in-Err.field-0.kind (answer_of c.in_ok-reply_to_bad_line-in-Err.field-0) c.need_of.ensures told.kind c.in-Err.ensures.bad told.answer

pub returns-in_ok-reply_to_bad_line-in-Err-clause-bad_line : goal.returns-in_ok-reply_to_bad_line-in-Err-clause-bad_line
returns-in_ok-reply_to_bad_line-in-Err-clause-bad_line g c =
    let told = c.in_ok-reply_to_bad_line-in-Err.ensures in
    bad_status c.args.task c.need_of.result c.args.bytes.now c.in-Err.field-0.line c.in-Err.field-0.kind c.in_ok-reply_to_bad_line-in-Err.field-0.status c.need_of.ensures told.kind c.in-Err.ensures.bad told.status
