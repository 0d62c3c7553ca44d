-- Each half is done, and what a half borrows may cross to another thread.
use Rattle.std.proofs.Common.{rules}
use Rattle.std.proofs.lemmas.List.Elements.{All-append}
use denote.Exit.{no}
use denote.Param.{param}
use denote.Param.Send.{IsSync, arg_send, mut_slice_send, param_send, param_sync, shr_send, shr_slice_send}
use Rattle.prime_field.specs.Modulus.{value_of}
use Rattle.prime_field.specs.contracts.Modulus as Modulus
use Rattle.prime_field.proofs.Modulus.TheSendSync as modulus
use Rattle.poly_maps.specs.contracts.point.Point as Point
use Rattle.poly_maps.proofs.point.Point.TheSendSync as point
use Rattle.graph_file.specs.contracts.job.Job as Job
use Rattle.graph_eval.specs.contracts.learned.Learned as Learned
use Rattle.graph_eval.proofs.learned.Learned.TheSendSync as learned
use Rattle.parallel_sampler.specs.contracts.board.Board as Board
use Rattle.parallel_sampler.proofs.board.Board.TheSendSync as board
use Rattle.parallel_sampler.specs.contracts.crew.Hand as Hand
use Rattle.parallel_sampler.proofs.crew.Hand.TheSendSync as hand
use Rattle.parallel_sampler.specs.Hands.{IsDone}
use Rattle.parallel_sampler.proofs.Crossing.{capture, closure_send, no_more}
use Rattle.parallel_sampler.proofs.SharedJobs.{job_sync}
use Rattle.parallel_sampler.proofs.running.+fn-run-join_mut+arg2+fn-run-join_mut+arg3+run.Goals as goal
use Rattle.parallel_sampler.proofs.running.+fn-run-join_mut+arg2+fn-run-join_mut+arg3+run.Lts-run as lts

pub join_mut-requires-send-F : goal.join_mut-requires-send-F
join_mut-requires-send-F g t c κs within =
    let runtime : IsSync g.row.R = search in
    let gate : IsSync g.row.G = search in
    param_send 1 (lts.arg-2-1 g.row.G g.row.R g.G.laws g.R.laws g.G.Gate-dict g.R.Threads-dict κs) (arg_send _ no _ (closure_send _ _
    (capture _ _ (shr_send _ _ (param 1 g.row.R) (param_sync 1 g.row.R runtime))
    (capture _ _ (shr_send _ _ Board.the_row board.the_sync)
    (capture _ _ (shr_send _ _ Job.the_row job_sync)
    (capture _ _ (shr_send _ _ Learned.the_row learned.the_sync)
    (capture _ _ (shr_send _ _ Modulus.the_row modulus.the_sync)
    (capture _ _ (shr_slice_send _ _ Point.the_row point.the_sync)
    (capture _ _ (shr_send _ _ (param 0 g.row.G) (param_sync 0 g.row.G gate))
    (capture _ _ (mut_slice_send _ _ Hand.the_row hand.the_send) no_more))))))))))

pub returns : goal.returns
returns g t c = All-append (IsDone (value_of c.args.m) c.args.job.now.graphs c.args.learned.now c.args.points.now c.args.board.now) c.front-1.given.0 c.back-1.given.0 (search rules) (search rules)
