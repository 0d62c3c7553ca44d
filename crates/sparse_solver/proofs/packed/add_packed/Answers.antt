use Rattle.std.proofs.Common.{◌≡◌, ◌*◌, ◌<◌, ap, get_or, length, arith, ◌+◌, ◌%◌, ◌∙◌}
use Rattle.std.proofs.lemmas.List.Elements.{All-set}
use Rattle.prime_field.specs.Sum.{sum_to}
use Rattle.sparse_solver.specs.Packed.{row_sum}
use Rattle.sparse_solver.proofs.PackedRows.{added_more, outside_more}
use Rattle.sparse_solver.proofs.packed.add_packed.Goals as goal

pub loop-i-preserved : goal.loop-i-preserved
loop-i-preserved g c =
    let m = g.F.Field.modulus in
    record {
      added = λ w. added_more m c.args.row.now c.loop-i.row c.args.columns.now c.args.values.now c.loop-i.i c.add_product.result c.args.factor w
          (omega (arith, c.requires.columns c.loop-i.i c.loop-i-test.true, c.loop-i.auto.row)) c.add_product.ensures.sum (c.loop-i.invariant.added w);
      residues = All-set (λ x. x < m) c.loop-i.row _ c.add_product.result c.add_product.ensures.residue c.loop-i.invariant.residues;
      others = λ k outside. outside_more c.args.row.now c.loop-i.row c.args.columns.now c.loop-i.i c.add_product.result c.loop-i-test.true c.loop-i.invariant.others k outside;
    }

pub returns-clause-added : goal.returns-clause-added
returns-clause-added g c w =
    let end : c.loop-i.i ≡ length c.args.columns.now = omega arith in
    c.loop-i.invariant.added w ∙
    ap (λ n. (row_sum c.args.row.now w + c.args.factor * sum_to n (λ k. get_or c.args.values.now k 0 * w (get_or c.args.columns.now k 0))) % g.F.Field.modulus) end
