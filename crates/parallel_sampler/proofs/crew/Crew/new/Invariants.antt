-- The workers so far are made for the job.
use Rattle.std.proofs.Common.{◌≡◌, All}
use Rattle.std.specs.Prelude.{vec_len}
use Rattle.parallel_sampler.specs.Hands.{IsHeld}
use Rattle.parallel_sampler.proofs.crew.Crew.new.Given as goal

abbrev pub invariant-loop : goal.invariant-loop
invariant-loop l = (vec_len l.hands ≡ l.counter) × All (IsHeld l.job.graphs l.learned) l.hands.items
