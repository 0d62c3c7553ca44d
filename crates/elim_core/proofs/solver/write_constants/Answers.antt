use Rattle.std.proofs.Common.{refl}
use Rattle.elim_core.proofs.Columns.{Constants-more}
use Rattle.elim_core.proofs.solver.write_constants.Goals as goal

pub loop-t-preserved : goal.loop-t-preserved
loop-t-preserved c = Constants-more _ _ _ _ _ _ _ c.loop-t.invariant c.requires.room c.loop-t-test.true refl
