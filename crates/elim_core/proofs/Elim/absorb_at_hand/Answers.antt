use Rattle.std.proofs.Common.{refl}
use Rattle.elim_core.proofs.Lists.{absorbed_new, absorbed_same, absorbed_none}
use Rattle.elim_core.proofs.Elim.absorb_at_hand.Goals as goal

pub returns-in-New-clause-absorbed : goal.returns-in-New-clause-absorbed
returns-in-New-clause-absorbed c = absorbed_new _ _ _ _ c.requires.solvable c.in-New.ensures.laid_out c.in-New.ensures.says

pub returns-in-Same-clause-absorbed : goal.returns-in-Same-clause-absorbed
returns-in-Same-clause-absorbed c = absorbed_same _ _ _ _ c.requires.solvable c.in-Same.ensures.laid_out c.in-Same.ensures.says

pub returns-in-Contradiction-clause-absorbed : goal.returns-in-Contradiction-clause-absorbed
returns-in-Contradiction-clause-absorbed c = absorbed_none _ _ _ _ c.requires.solvable c.in-Contradiction.ensures.laid_out _ refl c.in-Contradiction.ensures.says
