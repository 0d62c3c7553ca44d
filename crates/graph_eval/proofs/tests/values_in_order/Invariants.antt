-- The worker is made for the job, and there is a place for each entry of the output.
use Rattle.std.proofs.Common.{◌≡◌, length}
use Rattle.graph_eval.specs.Learned.{outputs_of}
use Rattle.graph_eval.specs.Made.{IsMadeFor}
use Rattle.graph_eval.proofs.tests.values_in_order.Given as goal

abbrev pub invariant-loop-place : goal.invariant-loop-place
invariant-loop-place l = record { made : IsMadeFor l.job.graphs l.learned l.worker; long : length l.out ≡ outputs_of l.learned }
