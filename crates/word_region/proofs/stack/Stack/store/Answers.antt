-- What is written over kept words is a run of the others.
use Rattle.std.proofs.Common.{ap, length, length-drop, arith, ◌∙◌}
use Rattle.word_region.specs.Board.{Board}
use Rattle.word_region.proofs.Boards.{board_copied}
use Rattle.word_region.proofs.stack.Stack.store.Goals as goal

pub overflow_add-read : goal.overflow_add-read
overflow_add-read c = omega (arith, ap (λ (b : Board). length b.words) c.self.view_is, length-drop c.self.inside.floor c.self.inside.region.used, c.self.invariant, c.requires.order, c.requires.there, c.mark-used.ensures)

pub returns : goal.returns
returns c =
    board_copied c.self.inside.floor c.args.from c.args.to c.args.at c.self.inside.region c.args.self.now c.copy_from_slice.new.self c.self.view_is c.self.invariant c.requires.order c.requires.there c.requires.room
    (c.copy_from_slice.ensures.after ∙ c.pair-place.ensures.read)
