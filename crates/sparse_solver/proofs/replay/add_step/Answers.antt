use Rattle.std.proofs.Common.{sym, subst}
use Rattle.sparse_solver.specs.Packed.{IsOutside, packed_sum}
use Rattle.sparse_solver.proofs.PackedRows.{added_none, packed_along}
use Rattle.sparse_solver.proofs.replay.add_step.Goals as goal

pub returns-then-word-ne0-clause-same : goal.returns-then-word-ne0-clause-same
returns-then-word-ne0-clause-same g c w none =
    added_none g.F.Field.modulus _ _ c.product-factor.result (packed_sum c.kept_columns-columns.result.now c.kept_values-values.result.now w)
    (c.add_packed.ensures.added w)
    (packed_along g.F.Field.modulus _ _ c.kept_columns-columns.result.now c.kept_values-values.result.now w c.kept_columns-columns.ensures.part c.kept_values-values.ensures.part none)

pub returns-then-word-ne0-clause-others : goal.returns-then-word-ne0-clause-others
returns-then-word-ne0-clause-others g c k outside =
    c.add_packed.ensures.others k (subst (λ columns. IsOutside columns k) (sym c.kept_columns-columns.ensures.part) outside)
