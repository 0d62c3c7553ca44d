use Rattle.std.proofs.Common.{rules, subst}
use Rattle.parallel_sampler.specs.Board.{Sitting, HasEachBelow}
use Rattle.parallel_sampler.proofs.BoardSteps.{closes}
use Rattle.parallel_sampler.proofs.board.Board.close.Goals as goal

pub returns : goal.returns
returns c = subst (λ (s : Sitting). HasEachBelow c.word-count.result s.drawn) c.seat.view_is
    (closes _ _ c.seat.inside.seat.me.0 _ _ c.word-count.result (search rules) (search rules) c.close_with-closed.ensures.values.2 c.word-count.ensures)
