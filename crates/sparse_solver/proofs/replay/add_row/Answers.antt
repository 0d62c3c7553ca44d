use Rattle.std.proofs.Common.{sym, subst}
use Rattle.sparse_solver.specs.Packed.{IsOutside, packed_sum}
use Rattle.sparse_solver.proofs.PackedRows.{added_none, packed_along}
use Rattle.sparse_solver.proofs.replay.add_row.Goals as goal

pub returns-clause-added : goal.returns-clause-added
returns-clause-added g c w vanish =
    let row = c.row_at.ensures.row in
    added_none g.F.Field.modulus _ _ 1 (packed_sum c.row_at.result.0.now c.row_at.result.1.now w) (c.add_packed.ensures.added w)
    (packed_along g.F.Field.modulus _ _ c.row_at.result.0.now c.row_at.result.1.now w row.columns_are row.values_are (vanish c.args.number row.row row.at))

pub returns-clause-others : goal.returns-clause-others
returns-clause-others g c k outside =
    let row = c.row_at.ensures.row in
    c.add_packed.ensures.others k (subst (λ columns. IsOutside columns k) (sym row.columns_are) (outside row.row row.at))
