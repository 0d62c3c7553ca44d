use Rattle.elim_core.proofs.Lists.{absorbed_failed, absorbed_loaded, kept_solvable}
use Rattle.elim_core.proofs.Elim.absorb_entries.Goals as goal

pub returns-then-self-clause-absorbed : goal.returns-then-self-clause-absorbed
returns-then-self-clause-absorbed c = absorbed_failed _ _ _ c.if-self.true

pub returns-clause-absorbed : goal.returns-clause-absorbed
returns-clause-absorbed c =
    absorbed_loaded _ _ _ _ _ _ _ c.load_entries-span.ensures.rows c.load_entries-span.ensures.ends c.load_entries-span.ensures.work c.absorb_at_hand.ensures.absorbed

pub returns-clause-stays : goal.returns-clause-stays
returns-clause-stays c none = absurd (none (kept_solvable _ _ c.if-self.false c.requires.belongs.laid_out))
