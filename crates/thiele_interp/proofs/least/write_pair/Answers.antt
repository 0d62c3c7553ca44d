use Rattle.std.proofs.Common.{◌-◌, length, arith}
use Rattle.prime_field.specs.Modulus.{value_of}
use Rattle.prime_field.proofs.Moduli.{value_of-large}
use Rattle.thiele_interp.proofs.Written.{scaled-length, front-part, middle-part, written-reduced, written-num, written-den}
use Rattle.thiele_interp.proofs.least.write_pair.Goals as goal

pub split_at_mut-den-requires : goal.split_at_mut-den-requires
split_at_mut-den-requires c =
    let low = scaled-length (value_of c.args.m) (length c.args.rest.now - c.args.terms) c.trimmed_length-length.result c.args.inverse c.args.rest.now c.scale.new.coefficients
    c.requires.rest_below c.scale.ensures.residues c.scale.ensures.multiple c.trimmed_length-length.ensures in
    omega (arith, low, c.split_at_mut-after.ensures.back_len)

pub returns-clause-reduced : goal.returns-clause-reduced
returns-clause-reduced c =
    let made = written-reduced (value_of c.args.m) c.trimmed_length-length.result c.args.terms c.args.inverse c.args.factor.now c.scale.new.coefficients c.scale-2.new.coefficients
    (value_of-large c.args.m) c.trimmed_length-length.ensures c.scale.ensures.residues c.scale-2.ensures.residues (omega arith) c.requires.some c.requires.inverse c.scale-2.ensures.multiple in
    rw (
      front-part c.split_at_mut-after.result.0.now c.copy_from_slice.new.self c.split_at_mut-den.result.1.now c.trimmed_length-length.result c.split_at_mut-after.ensures.front_len,
      middle-part c.split_at_mut-after.result.0.now c.copy_from_slice.new.self c.split_at_mut-den.result.1.now c.trimmed_length-length.result c.args.terms c.split_at_mut-after.ensures.front_len (omega arith),
      c.split_at_mut-after.ensures.front,
      c.copy_from_slice.ensures.after,
    ) made

pub returns-clause-num : goal.returns-clause-num
returns-clause-num c =
    rw (
      front-part c.split_at_mut-after.result.0.now c.copy_from_slice.new.self c.split_at_mut-den.result.1.now c.trimmed_length-length.result c.split_at_mut-after.ensures.front_len,
      c.split_at_mut-after.ensures.front,
    )
    (written-num (value_of c.args.m) c.trimmed_length-length.result c.args.inverse c.args.rest.now c.scale.new.coefficients c.trimmed_length-length.ensures c.scale.ensures.multiple)

pub returns-clause-den : goal.returns-clause-den
returns-clause-den c =
    rw (
      middle-part c.split_at_mut-after.result.0.now c.copy_from_slice.new.self c.split_at_mut-den.result.1.now c.trimmed_length-length.result c.args.terms c.split_at_mut-after.ensures.front_len (omega arith),
      c.copy_from_slice.ensures.after,
    )
    (written-den (value_of c.args.m) c.args.terms c.args.inverse c.args.factor.now c.scale-2.new.coefficients c.requires.factor_below c.scale-2.ensures.multiple)
