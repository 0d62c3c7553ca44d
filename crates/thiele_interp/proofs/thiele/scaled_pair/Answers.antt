use Rattle.std.proofs.Common.{◌-◌, ◌<◌, length, slice_index, arith}
use Rattle.prime_field.specs.Modulus.{value_of}
use Rattle.prime_field.proofs.Units.{units_of_prime}
use Rattle.thiele_interp.proofs.Turns.{HasLength-bounds}
use Rattle.thiele_interp.proofs.Advanced.{some-terms, fits-tests, nowhere-taken}
use Rattle.thiele_interp.proofs.thiele.scaled_pair.Goals as goal

pub returns-then-not-is_nowhere_zero-clause-none : goal.returns-then-not-is_nowhere_zero-clause-none
returns-then-not-is_nowhere_zero-clause-none c prime fits =
    let nowhere = nowhere-taken (value_of c.args.m) (length c.args.points.now) (slice_index c.args.points.now) c.args.a c.args.b c.trimmed_length-terms.result
    c.args.num.now c.args.den.now c.trimmed_length-terms.ensures fits in
    absurd (cc (c.is_nowhere_zero.ensures.1 nowhere, c.if-not-is_nowhere_zero.true))

pub returns-in_err-inverse-clause-none : goal.returns-in_err-inverse-clause-none
returns-in_err-inverse-clause-none c =
    let terms = c.trimmed_length-terms.result in
    let some : 0 < terms =
    some-terms (value_of c.args.m) (length c.args.points.now) (slice_index c.args.points.now) terms c.args.den.now (omega arith)
    (c.is_nowhere_zero.ensures.0 c.if-not-is_nowhere_zero.false) in
    rw c.from_residual.ensures
    (λ prime fits.
    c.in_err-inverse.ensures.none (units_of_prime (value_of c.args.m) (slice_index c.args.den.now (terms - 1)) prime (c.requires.den_residues (terms - 1)) (c.trimmed_length-terms.ensures.1 some)))

pub returns-clause-scaled : goal.returns-clause-scaled
returns-clause-scaled c =
    let m = value_of c.args.m in
    let terms = c.trimmed_length-terms.result in
    let some : 0 < terms =
    some-terms m (length c.args.points.now) (slice_index c.args.points.now) terms c.args.den.now (omega arith)
    (c.is_nowhere_zero.ensures.0 c.if-not-is_nowhere_zero.false) in
    record {
      degree = terms - 1;
      factor = c.in_ok-inverse.inverse;
      residue = c.in_ok-inverse.ensures.residue;
      below = λ k from. HasLength-bounds m terms c.args.den.now c.trimmed_length-terms.ensures k (omega arith);
      unit = c.in_ok-inverse.ensures.inverse;
      num_scaled = c.write_pair-length.ensures.num;
      den_scaled = c.write_pair-length.ensures.den;
    }

pub returns-clause-fits : goal.returns-clause-fits
returns-clause-fits c =
    fits-tests (value_of c.args.m) (length c.args.points.now) (slice_index c.args.points.now) c.args.a c.args.b c.trimmed_length.result c.trimmed_length-terms.result
    c.args.num.now c.args.den.now c.trimmed_length.ensures c.if-trimmed_length-a.false c.trimmed_length-terms.ensures c.if-terms-b.false
    (c.is_nowhere_zero.ensures.0 c.if-not-is_nowhere_zero.false)
