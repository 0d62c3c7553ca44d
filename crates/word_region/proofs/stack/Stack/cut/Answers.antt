-- The words of the region that are left are the kept ones and these.
use Rattle.std.proofs.Common.{ap, length, length-drop, arith}
use Rattle.word_region.specs.Board.{Board}
use Rattle.word_region.proofs.Boards.{board_cut}
use Rattle.word_region.proofs.stack.Stack.cut.Goals as goal

pub overflow_add-self-inside : goal.overflow_add-self-inside
overflow_add-self-inside c = omega (arith, ap (λ (b : Board). length b.words) c.self.view_is, length-drop c.self.inside.floor c.self.inside.region.used, c.self.invariant, c.requires, c.mark-used.ensures)

pub returns : goal.returns
returns c = board_cut c.self.inside.floor c.args.count c.self.inside.region c.release.new.self c.args.self.now c.self.view_is c.self.invariant c.requires c.release.ensures
