-- The zeros stand behind the words of the region, and what is written to them does.
use Rattle.std.proofs.Common.{◌++◌, ap, refl, ◌∙◌}
use Rattle.std.specs.Prelude.{replicate}
use Rattle.word_region.specs.declared.Frame.{Frame}
use Rattle.word_region.specs.Board.{Board}
use Rattle.word_region.specs.Frame.{words_at}
use Rattle.word_region.specs.Words.{Words}
use Rattle.word_region.proofs.Boards.{below_top, board_grown, top_run}
use Rattle.word_region.proofs.stack.Stack.grow.Goals as goal

pub returns : goal.returns
returns c =
    let floor = c.self.inside.floor in
    let region = c.self.inside.region in
    let frame = rw c.unwrap-top.ensures at c.take.ensures.frame in
    let zeros = rw c.unwrap-top.ensures at c.take.ensures.zeros in
    let words = ap (λ (b : Board). b.words) c.self.view_is in (
      (refl, λ ws. board_grown floor c.args.n region c.take.new.self c.unwrap-top.result c.args.self.now ws c.self.view_is c.self.invariant frame zeros),
      record {
        writes_back = tt;
        below = c.pair.ensures.read ∙ ap (λ (r : Words). words_at r (record { at = floor; len = c.len.result })) zeros ∙ below_top floor region.used (replicate c.args.n 0) c.len.result c.self.invariant c.len.ensures ∙ words;
        top = c.pair.ensures.write ∙ ap (λ (r : Words). words_at r c.unwrap-top.result) zeros ∙ ap (λ (f : Frame). words_at (record region { used = region.used ++ replicate c.args.n 0 }) f) frame ∙ top_run region.used c.args.n;
      },
    )
