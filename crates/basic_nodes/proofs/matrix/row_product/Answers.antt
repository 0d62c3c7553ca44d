use Rattle.std.proofs.Common.{rules}
use Rattle.basic_nodes.proofs.Products.{row_more}
use Rattle.basic_nodes.proofs.matrix.row_product.Goals as goal

pub loop-done-preserved : goal.loop-done-preserved
loop-done-preserved c = record {
  within = search rules;
  low = search rules;
  entries = λ j column. row_more _ _ _ _ _ _ _ _ _ (search rules) (search rules) column
      (c.loop-done.invariant.entries j column) (c.add_rows.ensures.entries j column);
}
