use Rattle.std.proofs.Common.{◌≡◌, length, slice_index, ◌∙◌, ap, arith, rules}
use Rattle.std.proofs.Math.ListN.{set, replicate}
use Rattle.prime_field.specs.Modulus.{value_of}
use Rattle.newton_interp.proofs.Columns.{one_more}
use Rattle.newton_interp.proofs.grid.write_basis.Goals as goal

pub loop-j-preserved : goal.loop-j-preserved
loop-j-preserved c =
    let m = value_of c.args.m in
    let n = length c.args.points.now in
    let j = c.loop-j.j in
    let cleared = c.fill-in-loop-j.ensures.after (search rules) in
    let long : length c.loop-j.unit ≡ n = omega arith in
    let unit = set c.fill-in-loop-j.new.self j 1 in
    let unit_is : unit ≡ set (replicate n 0) j 1 = ap (λ p. set p j 1) (cleared ∙ ap (λ k. replicate k 0) long) in
    record {
      residues = c.write_column.ensures.low m c.newton_over.ensures.residues c.loop-j.invariant.residues;
      basis = one_more m n j (slice_index c.args.points.now) unit c.newton_over.new.out c.loop-j.basis c.write_column.new.buffer (omega arith) (omega arith) unit_is c.newton_over.ensures
          c.write_column.ensures.column c.write_column.ensures.others c.loop-j.invariant.basis;
    }
