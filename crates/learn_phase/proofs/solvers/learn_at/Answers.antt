-- The graph is learned at the point that the definition gives.
use Rattle.std.proofs.Common.{refl}
use Rattle.graph_eval.specs.declared.fresh.Fresh.TheVariants as fresh
use Rattle.learn_phase.specs.LearnedSets.{Place}
use Rattle.learn_phase.proofs.Trying.{answers_at, has_inputs}
use Rattle.learn_phase.proofs.solvers.learn_at.Goals as goal

pub fresh_point-requires-clause-entries : goal.fresh_point-requires-clause-entries
fresh_point-requires-clause-entries c = has_inputs c.args.job.now.graphs c.args.graph c.variables_of.result c.args.q c.learning_point-point.result c.requires.there c.variables_of.ensures.counted c.learning_point-point.ensures

pub returns-in-Learned-clause-told : goal.returns-in-Learned-clause-told
returns-in-Learned-clause-told c = λ graph is prime.
    let place : Place = record { graphs = c.args.job.now.graphs; learned = c.args.learned.now; number = c.args.graph } in
    (c.in-Learned.entry, answers_at place graph c.variables_of.result c.args.q c.learning_point-point.result c.in_ok-entry.field-0 (fresh.Learned c.in-Learned.entry) is (c.variables_of.ensures.counted graph is) c.learning_point-point.ensures c.in-Learned.is (c.in_ok-entry.ensures.fresh prime), refl)

pub returns-in-Singular-clause-told : goal.returns-in-Singular-clause-told
returns-in-Singular-clause-told c = λ graph is prime.
    let place : Place = record { graphs = c.args.job.now.graphs; learned = c.args.learned.now; number = c.args.graph } in
    answers_at place graph c.variables_of.result c.args.q c.learning_point-point.result c.in_ok-entry.field-0 (fresh.Singular c.in-Singular.singular) is (c.variables_of.ensures.counted graph is) c.learning_point-point.ensures c.in-Singular.is (c.in_ok-entry.ensures.fresh prime)

pub returns-in-Length-clause-told : goal.returns-in-Length-clause-told
returns-in-Length-clause-told c = λ graph is prime.
    let place : Place = record { graphs = c.args.job.now.graphs; learned = c.args.learned.now; number = c.args.graph } in
    (refl, answers_at place graph c.variables_of.result c.args.q c.learning_point-point.result c.in_ok-entry.field-0 (fresh.Length c.in-Length.node) is (c.variables_of.ensures.counted graph is) c.learning_point-point.ensures c.in-Length.is (c.in_ok-entry.ensures.fresh prime))
