-- The block's rows so far are filled.
use Rattle.std.proofs.Common.{◌≡◌}
use Rattle.prime_field.specs.Modulus.{value_of}
use Rattle.graph_eval.specs.Made.{IsMadeFor}
use Rattle.parallel_sampler.specs.Filled.{FillsRows}
use Rattle.parallel_sampler.proofs.table.Table.fill.Given as goal

abbrev pub invariant-loop-i : goal.invariant-loop-i
invariant-loop-i l =
    IsMadeFor l.job.graphs l.learned l.worker × (l.self.room ≡ l.initial.self.room) ×
    FillsRows (value_of l.m) l.job.graphs l.learned l.points l.first l.i l.initial.self.rows l.self.rows
