use Rattle.std.proofs.Common.{sym, ◌∙◌, get_or, arith}
use Rattle.std.proofs.lemmas.Option.{slice_get_within}
use Rattle.sparse_solver.proofs.PackedRows.{tested_more}
use Rattle.sparse_solver.proofs.vectors.test_rows.Goals as goal

pub loop-number-preserved : goal.loop-number-preserved
loop-number-preserved g c =
    tested_more g.F.Field.modulus c.args.rows.now c.args.starts.now c.args.values.now c.loop-number.number c.row_at.result.0.now c.row_at.result.1.now (λ k. get_or c.args.vector.now k 0)
    c.row_at.ensures.row (sym c.sum_packed.ensures.sum ∙ c.if-sum_packed-ne0.false)
    c.loop-number.invariant

pub returns : goal.returns
returns g c i row at = c.loop-number.invariant i row (omega (arith, slice_get_within c.args.rows.now i row at, c.loop-number-test.false)) at
