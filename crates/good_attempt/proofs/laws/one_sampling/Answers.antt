-- A graph has one outcome at a point at most.
use Rattle.graph_eval.specs.GraphValue.{GraphValue}
use Rattle.graph_eval.proofs.OneValue.{one_outcome}
use Rattle.good_attempt.proofs.OneSampling.{good_or_exhausted, sampling_once}
use Rattle.good_attempt.proofs.laws.one_sampling.Goals as goal

pub returns-clause-once : goal.returns-clause-once
returns-clause-once c = λ m graphs learned number attempts one other large.
    sampling_once (GraphValue m graphs learned number) (λ point o p. one_outcome m graphs learned number point o p large) attempts one other

pub returns-clause-either : goal.returns-clause-either
returns-clause-either c = λ m graphs learned number attempts taken gaps large.
    good_or_exhausted (GraphValue m graphs learned number) (λ point o p. one_outcome m graphs learned number point o p large) attempts taken gaps
