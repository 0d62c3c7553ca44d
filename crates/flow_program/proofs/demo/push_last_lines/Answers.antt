-- The pieces are the two lines.
use Rattle.flow_program.proofs.DemoLaws.{last_written}
use Rattle.flow_program.proofs.demo.push_last_lines.Goals as goal

pub returns : goal.returns
returns c =
    last_written c.args.n c.args.text.now.items c.push_numbered.new.text.items c.push_numbered-2.new.text.items c.push_numbered-3.new.text.items c.push_numbered-4.new.text.items c.push.new.self.items
    c.in_ok-push_numbered.ensures c.in_ok-push_numbered-2.ensures c.in_ok-push_numbered-3.ensures c.in_ok-push_numbered-4.ensures c.in_ok-push.ensures.items
