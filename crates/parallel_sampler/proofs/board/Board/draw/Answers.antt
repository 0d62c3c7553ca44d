use Rattle.std.proofs.Common.{rules}
use Rattle.parallel_sampler.proofs.BoardSteps.{draws}
use Rattle.parallel_sampler.proofs.board.Board.draw.Goals as goal

pub fetch_add-requires : goal.fetch_add-requires
fetch_add-requires c = (search rules, search rules, draws _ _ _ _ (search rules) (search rules) (search rules))
