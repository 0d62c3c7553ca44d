use Rattle.ray_grid.proofs.Counted.{count_listed}
use Rattle.ray_grid.proofs.laws.count_is_length.Goals as goal

pub returns : goal.returns
returns c b variables es eight few lists = count_listed b variables es eight few lists
