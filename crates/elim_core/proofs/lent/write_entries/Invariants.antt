use Rattle.elim_core.specs.Kept.{HasEntries}
use Rattle.elim_core.proofs.lent.write_entries.Given as goal

abbrev pub invariant-loop-i : goal.invariant-loop-i
invariant-loop-i l = HasEntries l.unknowns l.work l.columns l.values l.i
