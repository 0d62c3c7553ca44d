-- The greatest position so far and those that are left give the greatest of all.
use Rattle.std.proofs.Common.{◌≡◌, drop}
use Rattle.std.specs.Prelude.{max}
use Rattle.graph_eval.specs.Learned.{greatest_among}
use Rattle.graph_eval.proofs.shapes.greatest_among.Given as goal

abbrev pub invariant-loop-expr : goal.invariant-loop-expr
invariant-loop-expr l = greatest_among l.exprs ≡ max l.greatest (greatest_among (drop l.expr-index l.exprs))
