-- Each learning point is tried as the definition says.
use Rattle.std.proofs.Common.{Result, Ok, length-set, ◌∙◌, refl, subst, arith}
use Rattle.std.proofs.lemmas.Result.{err_from_is_err_and}
use Rattle.graph_eval.specs.declared.learned.GraphLearned.{GraphLearned}
use Rattle.graph_eval.specs.declared.outcome.Singular.{Singular}
use Rattle.learn_phase.specs.Answers.{FitsPoint, TellsPoint}
use Rattle.learn_phase.specs.LearnedSets.{Place}
use Rattle.learn_phase.proofs.Trying.{HasTried-more, ended_at, needed_everywhere, singular_everywhere, taught_at}
use Rattle.learn_phase.proofs.solvers.learn_at_points.Goals as goal

pub returns-in_err-entry-clause-told : goal.returns-in_err-entry-clause-told
returns-in_err-entry-clause-told c = λ graph is prime.
    let place : Place = record { graphs = c.args.job.now.graphs; learned = c.args.learned.now; number = c.args.graph } in
    let told = err_from_is_err_and c.from_residual.result c.from_residual.ensures.1 in
    rw (told.1, told.2) (ended_at place graph c.loop-q.q c.loop-q.first c.in_err-entry.field-0.0 (c.requires.solver graph is) c.loop-q-test.true c.loop-q.invariant.long (c.loop-q.invariant.tried graph is) prime (c.in_err-entry.ensures.told graph is prime))

pub returns-in-Ok-clause-told : goal.returns-in-Ok-clause-told
returns-in-Ok-clause-told c = λ graph is prime.
    let place : Place = record { graphs = c.args.job.now.graphs; learned = c.args.learned.now; number = c.args.graph } in
    taught_at place graph c.loop-q.q c.loop-q.first c.in-Ok.entry (c.requires.solver graph is) c.loop-q-test.true c.loop-q.invariant.long (c.loop-q.invariant.tried graph is) prime
    (subst (λ (given : Result GraphLearned Singular). TellsPoint place graph c.loop-q.q (Ok given)) c.in-Ok.is (c.in_ok-entry.ensures.told graph is prime))

pub loop-q-preserved : goal.loop-q-preserved
loop-q-preserved c =
    let place : Place = record { graphs = c.args.job.now.graphs; learned = c.args.learned.now; number = c.args.graph } in
    let q = c.loop-q.q in
    let singular = c.in-Err.singular in
    record {
      long = length-set c.loop-q.first q singular ∙ c.loop-q.invariant.long;
      tried = λ graph is.
          HasTried-more place graph q c.loop-q.first singular (omega (arith, c.loop-q.invariant.long, c.loop-q-test.true)) (c.loop-q.invariant.tried graph is)
          (λ prime. subst (λ (given : Result GraphLearned Singular). TellsPoint place graph q (Ok given)) c.in-Err.is (c.in_ok-entry.ensures.told graph is prime))
          (subst (λ (given : Result GraphLearned Singular). FitsPoint place graph (Ok given)) c.in-Err.is (c.in_ok-entry.ensures.fits graph is));
    }

pub returns-clause-told : goal.returns-clause-told
returns-clause-told c = λ graph is prime.
    let place : Place = record { graphs = c.args.job.now.graphs; learned = c.args.learned.now; number = c.args.graph } in
    (refl, singular_everywhere place graph c.loop-q.q c.loop-q.first (c.requires.solver graph is) c.loop-q.invariant.long c.loop-q-test.false c.loop-q.auto.q-end (c.loop-q.invariant.tried graph is) prime)

pub returns-clause-fits : goal.returns-clause-fits
returns-clause-fits c = λ graph is.
    let place : Place = record { graphs = c.args.job.now.graphs; learned = c.args.learned.now; number = c.args.graph } in
    (refl, needed_everywhere place graph c.loop-q.q c.loop-q.first c.loop-q.invariant.long c.loop-q-test.false c.loop-q.auto.q-end (c.loop-q.invariant.tried graph is))
