-- The rows so far are taken.
use Rattle.parallel_sampler.proofs.Gathering.{AreTaken}
use Rattle.parallel_sampler.proofs.table.take_rows.Given as goal

abbrev pub invariant-loop-i : goal.invariant-loop-i
invariant-loop-i l = AreTaken l.i l.initial.others l.initial.rows l.others l.rows
