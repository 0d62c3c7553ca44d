use Rattle.ray_grid.proofs.Forcing.{attempt_forcing}
use Rattle.ray_grid.proofs.laws.attempts_are_forcing.Goals as goal

pub returns : goal.returns
returns c = attempt_forcing
