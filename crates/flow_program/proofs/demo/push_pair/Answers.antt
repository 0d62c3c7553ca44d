-- The pieces are the two entries.
use Rattle.flow_program.proofs.DemoLaws.{pair_written}
use Rattle.flow_program.proofs.demo.push_pair.Goals as goal

pub returns : goal.returns
returns c =
    pair_written c.args.k c.args.factor c.args.text.now.items c.push_numbered.new.text.items c.push_numbered-2.new.text.items c.push_numbered-3.new.text.items c.push.new.self.items
    c.in_ok-push_numbered.ensures c.in_ok-push_numbered-2.ensures c.in_ok-push_numbered-3.ensures c.in_ok-push.ensures.items
