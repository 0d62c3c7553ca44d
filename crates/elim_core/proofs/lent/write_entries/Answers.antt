use Rattle.std.proofs.Common.{refl}
use Rattle.elim_core.proofs.EntryRows.{HasEntries-more}
use Rattle.elim_core.proofs.lent.write_entries.Goals as goal

pub loop-i-preserved : goal.loop-i-preserved
loop-i-preserved c =
    HasEntries-more _ _ _ _ _ _ _ c.loop-i.invariant c.loop-i-test.true c.requires.ascending c.requires.columns c.place_of.ensures refl
