use Rattle.multivar_recon.proofs.Unique.{least_leads}
use Rattle.multivar_recon.proofs.laws.least_pair_leads_least.Goals as goal

pub returns : goal.returns
returns c m b xs vs f g lead other large least is f_leads g_leads = least_leads m b xs vs large f g lead other least is f_leads g_leads
