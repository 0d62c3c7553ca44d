use Rattle.parallel_sampler.proofs.Points.{all_inputs}
use Rattle.parallel_sampler.proofs.tests.work_of_one_seat_fills_all_rows.Goals as goal

pub work-requires-clause-entries : goal.work-requires-clause-entries
work-requires-clause-entries g c κs = all_inputs c.in_ok-job.job.graphs c.in_ok-job.job.points c.as_slice-points.result.now c.in_ok-job.job.sound c.as_slice-points.ensures
