-- Each point of a job has an entry for each variable of its main graph.
use Rattle.std.proofs.Common.{◌≡◌, ◌-◌, Some, length, rules}
use Rattle.std.specs.Prelude.{slice_get}
use Rattle.graph_eval.proofs.Fitting.{point_inputs}
use Rattle.graph_eval.proofs.tests.told_by.Goals as goal

pub eval_point-requires-clause-entries : goal.eval_point-requires-clause-entries
eval_point-requires-clause-entries c =
    let at : slice_get c.in_ok-job.job.points (length c.as_slice-points.result.now - 1) ≡ Some c.in_ok-point.point.now = search rules in
    point_inputs c.in_ok-job.job.graphs c.in_ok-job.job.points (length c.as_slice-points.result.now - 1) c.in_ok-point.point.now c.in_ok-job.job.sound at
