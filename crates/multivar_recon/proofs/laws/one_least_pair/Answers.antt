use Rattle.multivar_recon.proofs.Unique.{one_least}
use Rattle.multivar_recon.proofs.laws.one_least_pair.Goals as goal

pub returns : goal.returns
returns c m b xs vs f g large forcing f_least g_least = one_least m b xs vs large f g forcing f_least g_least
