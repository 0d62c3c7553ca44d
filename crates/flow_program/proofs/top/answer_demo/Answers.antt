-- The answer is that of the bytes of the demo.
use Rattle.std.proofs.Common.{length, arith, ap, ◌∙◌}
use Rattle.flow_program.specs.declared.task.Task.TheVariants as task
use Rattle.flow_program.specs.Demo.{demo_bytes}
use Rattle.flow_program.proofs.RunLaws.{demo_replied}
use Rattle.flow_program.proofs.top.answer_demo.Goals as goal

pub returns-clause-right : goal.returns-clause-right
returns-clause-right g c =
    let same = c.as_slice.ensures.value in
    demo_replied c.reply_to_file.result (task.Demo c.args.n) c.as_slice.result.now (demo_bytes c.args.n) (same ∙ c.in_ok-bytes.ensures) (omega (arith, c.if-len-gt-FILE_LIMIT.false, c.len.ensures, ap length same))
    c.reply_to_file.ensures.answer c.reply_to_file.ensures.bad_line
