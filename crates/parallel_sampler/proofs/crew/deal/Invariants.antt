-- The workers so far have their posts, and the seat has the draws of the others left.
use Rattle.std.proofs.Common.{◌≡◌, ◌+◌, ◌-◌, ◌*◌, length}
use Rattle.std.specs.List.{AllWithin}
use Rattle.parallel_sampler.specs.Filled.{blocks_of}
use Rattle.parallel_sampler.specs.Hands.{IsPosted, workers_of}
use Rattle.parallel_sampler.proofs.crew.deal.Given as goal

abbrev pub invariant-loop-i : goal.invariant-loop-i
invariant-loop-i l =
    (l.rest ≡ record l.initial.rest { left = (length l.hands - l.i) * (blocks_of l.points + 1) }) × (workers_of l.hands ≡ workers_of l.initial.hands) ×
    AllWithin (IsPosted l.outputs l.points l.board) l.hands 0 l.i
