-- The size is that of the demo, and the points are those of an attempt.
use Rattle.graph_file.specs.Says.{form}
use Rattle.flow_program.proofs.FunctionLaws.{told_demo}
use Rattle.flow_program.proofs.functions.reply_to_demo.Goals as goal

pub returns-clause-answer : goal.returns-clause-answer
returns-clause-answer g c =
    told_demo c.reply_in_manner.result c.args.n c.from.result c.points_of_attempt.result (form c.args.job.now) c.args.learned.now c.from.ensures c.points_of_attempt.ensures c.reply_in_manner.ensures.answer
