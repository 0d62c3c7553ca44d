use Rattle.multivar_recon.proofs.Regular.{regular_least}
use Rattle.multivar_recon.proofs.ray_laws.regular_pair_is_least.Goals as goal

pub returns : goal.returns
returns c = regular_least
