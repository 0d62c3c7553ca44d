use Rattle.parallel_sampler.proofs.Points.{all_inputs}
use Rattle.parallel_sampler.proofs.tests.rows_by.Goals as goal

pub sample-requires-clause-entries : goal.sample-requires-clause-entries
sample-requires-clause-entries g c = λ lives outlive. all_inputs c.in_ok-job.job.graphs c.in_ok-job.job.points c.as_slice.result.now c.in_ok-job.job.sound c.as_slice.ensures
