-- The pieces are the row.
use Rattle.flow_program.proofs.DemoLaws.{row_written}
use Rattle.flow_program.proofs.demo.push_row.Goals as goal

pub returns : goal.returns
returns c =
    row_written c.args.place c.args.text.now.items c.push_numbered.new.text.items c.push_numbered-2.new.text.items c.push.new.self.items
    c.in_ok-push_numbered.ensures c.in_ok-push_numbered-2.ensures c.in_ok-push.ensures.items
