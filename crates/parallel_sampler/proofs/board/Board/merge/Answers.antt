use Rattle.std.proofs.Common.{rules}
use Rattle.parallel_sampler.proofs.BoardSteps.{joins}
use Rattle.parallel_sampler.proofs.board.Board.merge.Goals as goal

pub join_seat-requires : goal.join_seat-requires
join_seat-requires c = (search rules, search rules, search rules, search rules, joins _ _ _ _ _ (search rules))
