use Rattle.std.proofs.Common.{◌*◌, get_or}
use Rattle.sparse_solver.proofs.PackedRows.{summed_more}
use Rattle.sparse_solver.proofs.packed.sum_packed.Goals as goal

pub loop-i-preserved : goal.loop-i-preserved
loop-i-preserved g c = record {
  sum = summed_more g.F.Field.modulus c.loop-i.i c.loop-i.sum c.add_to_few-sum.result (λ k. get_or c.args.values.now k 0 * get_or c.args.vector.now (get_or c.args.columns.now k 0) 0)
      c.add_to_few-sum.ensures.sum c.loop-i.invariant.sum;
  few = c.add_to_few-sum.ensures.few;
}
