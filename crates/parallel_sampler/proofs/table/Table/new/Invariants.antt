-- The rows so far are empty, each with room for the outputs.
use Rattle.parallel_sampler.proofs.Filling.{AreEmpty}
use Rattle.parallel_sampler.proofs.table.Table.new.Given as goal

abbrev pub invariant-loop : goal.invariant-loop
invariant-loop l = AreEmpty l.counter l.outputs l.rows.items
