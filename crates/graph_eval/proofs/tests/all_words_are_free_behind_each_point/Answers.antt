-- Each point of a job has an entry for each variable of its main graph.
use Rattle.std.proofs.Common.{◌≡◌, ◌-◌, Some, length, rules}
use Rattle.std.specs.Prelude.{slice_get}
use Rattle.graph_eval.proofs.Fitting.{point_inputs}
use Rattle.graph_eval.proofs.tests.all_words_are_free_behind_each_point.Goals as goal

pub eval_point-requires-2-clause-entries : goal.eval_point-requires-2-clause-entries
eval_point-requires-2-clause-entries o c =
    let at : slice_get c.in_ok-job.job.points (length c.as_slice-points.result.now - 1) ≡ Some c.in_ok-last.last.now = search rules in
    point_inputs c.in_ok-job.job.graphs c.in_ok-job.job.points (length c.as_slice-points.result.now - 1) c.in_ok-last.last.now c.in_ok-job.job.sound at

pub eval_point-requires-3-clause-entries : goal.eval_point-requires-3-clause-entries
eval_point-requires-3-clause-entries o c =
    let at : slice_get c.in_ok-job.job.points 0 ≡ Some c.in_ok-first.first.now = search rules in
    point_inputs c.in_ok-job.job.graphs c.in_ok-job.job.points 0 c.in_ok-first.first.now c.in_ok-job.job.sound at
