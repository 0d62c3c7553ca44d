-- Each half has fewer workers than the whole.
use Rattle.std.proofs.Common.{length}
use Rattle.parallel_sampler.proofs.running.+fn-run-join_mut+arg2+fn-run-join_mut+arg3+run.Given as goal

abbrev pub decreases-join_mut+arg2 : goal.decreases-join_mut+arg2
decreases-join_mut+arg2 g l = length l.front.now

abbrev pub decreases-join_mut+arg3 : goal.decreases-join_mut+arg3
decreases-join_mut+arg3 g l = length l.back.now

abbrev pub decreases-run : goal.decreases-run
decreases-run g l = length l.hands.now
