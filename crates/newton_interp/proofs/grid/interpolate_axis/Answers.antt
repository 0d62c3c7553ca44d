use Rattle.std.proofs.Common.{◌*◌, length, slice_index, arith}
use Rattle.prime_field.specs.Modulus.{value_of}
use Rattle.newton_interp.proofs.Columns.{along-axis, whole-groups, positive-product}
use Rattle.newton_interp.proofs.grid.interpolate_axis.Goals as goal

pub returns-clause-along : goal.returns-clause-along
returns-clause-along c = λ q i j fits i_low j_low.
    let n = length c.args.points.now in
    let some = positive-product n c.args.block c.requires.axis.some c.requires.block in
    along-axis (value_of c.args.m) n _ c.args.block _ (slice_index c.args.points.now) c.write_basis.new.basis c.args.buffer.now _ (omega arith) c.write_basis.ensures.basis
    c.combine_columns.ensures.combined q i j (whole-groups q (n * c.args.block) (length c.args.buffer.now) some fits) i_low j_low
