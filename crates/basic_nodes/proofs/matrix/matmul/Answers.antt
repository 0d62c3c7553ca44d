use Rattle.std.proofs.Common.{rules, arith}
use Rattle.prime_field.proofs.Moduli.{value_of-large}
use Rattle.basic_nodes.proofs.Matrices.{rows_more, product_done, product_residues}
use Rattle.basic_nodes.proofs.matrix.matmul.Goals as goal

pub loop-i-preserved : goal.loop-i-preserved
loop-i-preserved c =
    rows_more _ _ _ _ _ _ _ _ _ c.loop-i-test.true c.requires.left (search rules) (search rules)
    (λ j column. c.row_product.ensures.entries j column) c.loop-i.invariant

pub returns-clause-residues : goal.returns-clause-residues
returns-clause-residues c =
    product_residues _ c.args.rows c.args.mid c.args.cols c.args.a.now c.args.b.now _ (omega (arith, value_of-large c.args.m))
    (product_done _ c.args.rows c.args.mid c.args.cols c.loop-i.i c.args.a.now c.args.b.now c.loop-i.out
    (search rules) (omega arith) c.loop-i.invariant)
