-- A job crosses threads since each of its parts does.
use denote.Param.Send.{sendable}
use Rattle.parallel_sampler.proofs.SentJobs.{job_send}
use Rattle.parallel_sampler.proofs.SharedJobs.{job_sync}
use Rattle.parallel_sampler.proofs.tests.types_cross_threads.Goals as goal

pub is_shared-requires-4-send-T : goal.is_shared-requires-4-send-T
is_shared-requires-4-send-T c κs = search (sendable, job_send) depth 10

pub is_shared-requires-4-sync-T : goal.is_shared-requires-4-sync-T
is_shared-requires-4-sync-T c κs = search (sendable, job_sync) depth 10
