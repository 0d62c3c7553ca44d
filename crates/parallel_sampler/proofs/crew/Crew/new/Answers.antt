-- Each worker is made for the job.
use Rattle.std.proofs.Common.{◌≡◌, ◌+◌, All, None, [], ◌∷◌, ◌++◌, length, ap, sym, ◌∙◌, subst, arith}
use Rattle.std.proofs.lemmas.List.{length_push}
use Rattle.std.proofs.lemmas.List.Elements.{All-map, All-push}
use Rattle.graph_eval.specs.Made.{IsMadeFor}
use Rattle.parallel_sampler.specs.declared.crew.Hand.{Hand}
use Rattle.parallel_sampler.specs.Hands.{IsHeld}
use Rattle.parallel_sampler.proofs.crew.Crew.new.Goals as goal

pub returns-clause-made : goal.returns-clause-made
returns-clause-made c = All-map (IsMadeFor c.args.job.now.graphs c.args.learned.now) (λ (hand : Hand). hand.worker) c.loop.hands.items c.loop.invariant.1

pub loop-preserved : goal.loop-preserved
loop-preserved c =
    let held = IsHeld c.args.job.now.graphs c.args.learned.now in
    let hand : Hand = record { worker = c.in_ok-worker.worker; post = None } in
    let pushed : c.push.new.self.items ≡ c.loop.hands.items ++ hand ∷ [] = c.in_ok-push.ensures.items in
    let many : length c.push.new.self.items ≡ length c.loop.hands.items + 1 = ap length pushed ∙ length_push c.loop.hands.items hand in (
      omega (arith, many, c.loop.invariant.0, c.push.new.self.ok.0, c.loop.hands.ok.0),
      subst (All held) (sym pushed) (All-push held c.loop.hands.items hand c.loop.invariant.1 c.in_ok-worker.ensures),
    )
