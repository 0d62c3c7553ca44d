use Rattle.ray_grid.proofs.RayLemmas.{entries-attempt, length-attempt}
use Rattle.ray_grid.proofs.laws.attempts_have_points.Goals as goal

pub returns-clause-count : goal.returns-clause-count
returns-clause-count c = length-attempt

pub returns-clause-entries : goal.returns-clause-entries
returns-clause-entries c = entries-attempt
