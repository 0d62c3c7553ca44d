-- The laws, for every graph.
use Rattle.graph_eval.proofs.OneLength.{failure_once, fits_or_fails, lengths_once, output_once, plans_once, sets_once}
use Rattle.graph_eval.proofs.laws.one_length.Goals as goal

pub returns-clause-lengths : goal.returns-clause-lengths
returns-clause-lengths c = lengths_once

pub returns-clause-output : goal.returns-clause-output
returns-clause-output c = output_once

pub returns-clause-plans : goal.returns-clause-plans
returns-clause-plans c = plans_once

pub returns-clause-either : goal.returns-clause-either
returns-clause-either c = λ sizes graph a n plain. fits_or_fails sizes graph plain a n

pub returns-clause-node : goal.returns-clause-node
returns-clause-node c = failure_once

pub returns-clause-sets : goal.returns-clause-sets
returns-clause-sets c = λ sizes graph a b plain. sets_once sizes graph plain a b
