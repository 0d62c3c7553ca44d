-- A graph has one outcome at a point at most.
use Rattle.graph_eval.specs.GraphValue.{GraphValue}
use Rattle.graph_eval.proofs.OneValue.{one_outcome}
use Rattle.parallel_sampler.proofs.Tables.{outcomes_once}
use Rattle.parallel_sampler.proofs.laws.one_table.Goals as goal

pub returns : goal.returns
returns c = λ m graphs learned number points one other large.
    outcomes_once (GraphValue m graphs learned number) (λ point o p. one_outcome m graphs learned number point o p large) points one other
