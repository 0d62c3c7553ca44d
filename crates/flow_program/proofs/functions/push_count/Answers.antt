-- The name and the number, and the end of the line.
use Rattle.std.proofs.Common.{ℕ, List, ◌++◌}
use Rattle.std.specs.Prelude.{codes, decimal}
use Rattle.flow_program.proofs.DemoLaws.{two}
use Rattle.flow_program.proofs.functions.push_count.Goals as goal

pub returns : goal.returns
returns c =
    two c.args.text.now.items (c.args.name.now ++ decimal c.args.number) (codes "\n") c.push_numbered.new.text.items c.push.new.self.items c.in_ok-push_numbered.ensures c.in_ok-push.ensures.items
