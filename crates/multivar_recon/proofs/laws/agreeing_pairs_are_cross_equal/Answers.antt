use Rattle.multivar_recon.proofs.Unique.{agreeing_cross, agreeing_within}
use Rattle.multivar_recon.proofs.laws.agreeing_pairs_are_cross_equal.Goals as goal

pub returns-clause-pairs : goal.returns-clause-pairs
returns-clause-pairs c m grid b xs vs f g large covers forcing f_is g_is =
    agreeing_cross m b xs vs large grid f g covers forcing (agreeing_within m b xs vs f f_is) (agreeing_within m b xs vs g g_is) f_is.agrees g_is.agrees

pub returns-clause-terms : goal.returns-clause-terms
returns-clause-terms c m grid b xs vs f g large covers forcing f_within g_within f_agrees g_agrees =
    agreeing_cross m b xs vs large grid f g covers forcing f_within g_within f_agrees g_agrees
