-- A row adds its values, and behind the last one there are none.
use Rattle.std.proofs.Common.{length, ap, arith}
use Rattle.elim_core.specs.declared.SparseRow.{SparseRow}
use Rattle.graph_eval.proofs.SparseLaws.{entries-drop, entries-past}
use Rattle.graph_eval.proofs.shapes.entries_of.Goals as goal

pub loop-row-preserved : goal.loop-row-preserved
loop-row-preserved c =
    omega (arith, c.loop-row.invariant, c.len-count.ensures, entries-drop c.args.rows.now c.loop-row.row-index c.row-item.result c.loop-row-test.true, ap (λ (row : SparseRow). length row.columns) c.row-item.is)

pub returns : goal.returns
returns c = omega (arith, c.loop-row.invariant, entries-past c.args.rows.now c.loop-row.row-index c.loop-row-test.false)
