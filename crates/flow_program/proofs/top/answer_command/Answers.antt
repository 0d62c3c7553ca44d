-- The demo has its own bytes, which no shelf holds.
use Rattle.std.proofs.Common.{sym, subst}
use Rattle.flow_program.specs.declared.words.Command.{Command}
use Rattle.flow_program.specs.Outside.{StandsAnswered, told_of}
use Rattle.flow_program.specs.Reply.{answer_of}
use Rattle.flow_program.specs.Tasks.{task_of}
use Rattle.flow_program.specs.Words.{request}
use Rattle.flow_program.proofs.top.answer_command.Goals as goal

pub returns-in_ok-answer_demo-in-Demo-clause-right : goal.returns-in_ok-answer_demo-in-Demo-clause-right
returns-in_ok-answer_demo-in-Demo-clause-right g c =
    subst (λ (command : Command). StandsAnswered (task_of (request command)) (told_of (request command) (g.H.Shelf.view c.args.shelf.now)) (answer_of c.in_ok-answer_demo-in-Demo.field-0)) (sym c.in-Demo.is) c.in_ok-answer_demo-in-Demo.ensures.right
