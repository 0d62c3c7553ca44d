-- The seat has drawn blocks, each once, and their rows are filled.
use Rattle.std.proofs.Common.{◌≡◌, ◌+◌, length}
use Rattle.prime_field.specs.Modulus.{value_of}
use Rattle.graph_eval.specs.Made.{IsMadeFor}
use Rattle.parallel_sampler.specs.Filled.{IsFilledBy, blocks_of}
use Rattle.parallel_sampler.proofs.Filling.{AreBlocks}
use Rattle.parallel_sampler.proofs.working.work.Given as goal

abbrev pub invariant-loop-m : goal.invariant-loop-m
invariant-loop-m g l =
    IsMadeFor l.job.graphs l.learned l.worker × (l.seat.board ≡ l.initial.seat.board) × (l.seat.quota ≡ l.initial.seat.quota) × (l.seat.left + length l.seat.drawn ≡ l.initial.seat.left) ×
    AreBlocks (blocks_of (length l.points)) l.seat.drawn × IsFilledBy (value_of l.m) l.job.graphs l.learned l.points l.seat.drawn l.table.rows × (l.table.room ≡ l.initial.table.room)

abbrev pub decreases-loop-m : goal.decreases-loop-m
decreases-loop-m g l = l.seat.left
