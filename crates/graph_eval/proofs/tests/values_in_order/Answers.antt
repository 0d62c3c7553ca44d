-- Each point of a job has an entry for each variable of its main graph.
use Rattle.std.proofs.Common.{◌≡◌, Some}
use Rattle.std.specs.Prelude.{slice_get}
use Rattle.graph_eval.proofs.Fitting.{point_inputs}
use Rattle.graph_eval.proofs.Places.{read_at}
use Rattle.graph_eval.proofs.tests.values_in_order.Goals as goal

pub eval_point-requires-clause-entries : goal.eval_point-requires-clause-entries
eval_point-requires-clause-entries c =
    let job = c.args.job.now in
    let points = c.as_slice-point-items.result.now in
    let place = c.loop-place.place in
    let at : slice_get job.points place ≡ Some c.point-item.result = read_at points job.points place c.point-item.result c.as_slice-point-items.ensures c.loop-place-test.true c.point-item.is in
    point_inputs job.graphs job.points place c.point-item.result job.sound at
