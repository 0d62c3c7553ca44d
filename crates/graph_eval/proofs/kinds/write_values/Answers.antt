-- The values are all there, or one of them isn't.
use Rattle.std.proofs.Common.{refl, ap, ◌∙◌}
use Rattle.graph_file.specs.Line.{all_of}
use Rattle.graph_eval.proofs.Gathered.{all_there, one_missing}
use Rattle.graph_eval.proofs.kinds.write_values.Goals as goal

pub returns-then-values_into-clause-ok : goal.returns-then-values_into-clause-ok
returns-then-values_into-clause-ok c = ap all_of c.if-values_into.ensures.values ∙ all_there c.values_into.new.out

pub returns-else-values_into-clause-err : goal.returns-else-values_into-clause-err
returns-else-values_into-clause-err c = (one_missing _ c.if-values_into.ensures.none, refl)
