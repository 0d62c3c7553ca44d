use Rattle.parallel_sampler.proofs.Turns.{schedule}
use Rattle.parallel_sampler.proofs.laws.draws_are_a_schedule.Goals as goal

pub returns : goal.returns
returns c = λ quota word views o. schedule quota word views o
