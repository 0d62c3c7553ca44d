-- What is written to the zeros is a run of the kept words.
use Rattle.std.proofs.Common.{◌∙◌}
use Rattle.word_region.proofs.Boards.{board_recalled}
use Rattle.word_region.proofs.stack.Stack.recall.Goals as goal

pub returns : goal.returns
returns c =
    let frame = rw c.unwrap-top.ensures at c.take.ensures.frame in
    let zeros = rw c.unwrap-top.ensures at c.take.ensures.zeros in
    board_recalled c.self.inside.floor c.args.from c.args.to c.self.inside.region c.take.new.self c.unwrap-top.result c.args.self.now c.copy_from_slice.new.self c.self.view_is c.self.invariant c.requires.order c.requires.there frame zeros
    (c.copy_from_slice.ensures.after ∙ c.pair-top.ensures.read)
