use Rattle.std.proofs.Common.{◌≡◌, ◌*◌, ◌%◌, length, slice_index}
use Rattle.prime_field.specs.Modulus.{value_of}
use Rattle.prime_field.proofs.Moduli.{value_of-large}
use Rattle.newton_interp.proofs.Points.{all_in}
use Rattle.newton_interp.proofs.form.interpolate.Goals as goal

pub returns : goal.returns
returns c =
    let m = value_of c.args.m in
    let made = c.add_pairs-factor in
    let v = slice_index c.args.values.now in
    let unit : (made.result * c.unwrap-inverse.result) % m ≡ 1 = rw c.unwrap-inverse.ensures at c.inv.ensures.inverse in
    let found = all_in m (length c.args.points.now) (slice_index c.args.points.now) v (slice_index made.new.spread) (slice_index made.new.missing) made.new.product made.new.out c.scale.new.coefficients
    made.result c.unwrap-inverse.result (value_of-large c.args.m) made.ensures.words.product_residues c.scale.ensures.residues made.ensures.stage
    (made.ensures.wants v c.begin.ensures.wants) unit c.scale.ensures.multiple in
    record { out = found.0; product = found.1 }
