-- The workers so far have settled.
use Rattle.std.proofs.Common.{◌+◌, ◌*◌, length}
use Rattle.prime_field.specs.Modulus.{value_of}
use Rattle.parallel_sampler.specs.Filled.{blocks_of}
use Rattle.parallel_sampler.proofs.Crews.{IsGathered}
use Rattle.parallel_sampler.proofs.sampling.sample_by.Given as goal

abbrev pub invariant-loop-i : goal.invariant-loop-i
invariant-loop-i g l =
    IsGathered (value_of l.fn.m) l.job.graphs l.learned l.points l.board (length l.hands * (blocks_of (length l.points) + 1)) l.i l.rest l.whole l.hands
