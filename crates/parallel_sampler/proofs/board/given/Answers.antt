use Rattle.std.proofs.Common.{rules}
use Rattle.parallel_sampler.proofs.BoardSteps.{splits}
use Rattle.parallel_sampler.proofs.board.given.Goals as goal

pub split_seat-seat-requires : goal.split_seat-seat-requires
split_seat-seat-requires g c = (search rules, search rules, splits _ _ _ _ (search rules) (search rules))
