use Rattle.multivar_recon.proofs.Regular.{regular_agrees}
use Rattle.multivar_recon.proofs.ray_laws.regular_pair_agrees.Goals as goal

pub returns : goal.returns
returns c = regular_agrees
