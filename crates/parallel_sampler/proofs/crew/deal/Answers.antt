-- One worker more has its post.
use Rattle.std.proofs.Common.{◌+◌, ◌-◌, ◌<◌, ℕ, length, ap, ◌∙◌, arith}
use Rattle.parallel_sampler.specs.Board.{Sitting}
use Rattle.parallel_sampler.specs.Filled.{blocks_of}
use Rattle.parallel_sampler.proofs.Crews.{draws_fewer, posted_more, workers_set}
use Rattle.parallel_sampler.proofs.crew.deal.Goals as goal

pub returns-in_err-take_post-clause-workers : goal.returns-in_err-take_post-clause-workers
returns-in_err-take_post-clause-workers c =
    let within : c.loop-i.i < length c.loop-i.hands = omega (arith, c.loop-i-test.true, c.loop-i.auto.hands) in
    workers_set c.loop-i.hands c.loop-i.i c.take_post.new.self _ within c.take_post.ensures.worker ∙ c.loop-i.invariant.1

pub loop-i-preserved : goal.loop-i-preserved
loop-i-preserved c =
    let within : c.loop-i.i < length c.loop-i.hands = omega (arith, c.loop-i-test.true, c.loop-i.auto.hands) in
    let each = blocks_of c.args.points + 1 in (
      c.in_ok-take_post.ensures.rest ∙ ap (λ (r : Sitting). record r { left = r.left - each }) c.loop-i.invariant.0
          ∙ ap (λ (n : ℕ). record c.args.rest.now { left = n }) (draws_fewer c.loop-i.hands c.loop-i.i c.take_post.new.self each within),
      workers_set c.loop-i.hands c.loop-i.i c.take_post.new.self _ within c.take_post.ensures.worker ∙ c.loop-i.invariant.1,
      posted_more c.args.outputs c.args.points c.args.board.now c.loop-i.hands c.loop-i.i c.take_post.new.self within c.in_ok-take_post.ensures.post c.loop-i.invariant.2,
    )
