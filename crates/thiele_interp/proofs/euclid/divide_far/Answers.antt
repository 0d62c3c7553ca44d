use Rattle.std.proofs.Common.{◌≡◌, suc, ◌+◌, ◌-◌, ◌%◌, length, slice_index, sym, ◌∙◌, ap, arith}
use Rattle.prime_field.specs.Modulus.{value_of}
use Rattle.prime_field.specs.Residue.{IsUnit}
use Rattle.prime_field.proofs.Moduli.{value_of-large}
use Rattle.prime_field.proofs.Units.{unit-cong}
use Rattle.thiele_interp.proofs.Dividing.{below-taken, below-added, unit-taken, entry-kept, agrees-added}
use Rattle.thiele_interp.proofs.euclid.divide_far.Goals as goal

pub loop-shift-init : goal.loop-shift-init
loop-shift-init c =
    let m = value_of c.args.m in
    let rest = c.args.rest.now in
    let factor = c.args.factor.now in
    let last = slice_index rest (length rest - 1) in
    let made = c.take_multiple in
    let large = value_of-large c.args.m in
    let predecessor : suc (m - 1) ≡ m = omega arith in
    let inverse_unit : IsUnit m c.args.inverse = (last, c.requires.rest_residues (length rest - 1), ap (λ t. t % m) (omega arith) ∙ c.requires.inverse) in
    record {
      above_residues = made.ensures.above_residues;
      earlier_residues = made.ensures.earlier_residues;
      above_below = below-taken m made.result c.args.gap c.args.inverse c.args.above.now rest made.new.above c.requires.rest_some c.requires.inverse
          made.ensures.factor c.requires.above_below made.ensures.above;
      earlier_below = below-added m made.result c.args.gap (length factor + c.args.gap) c.args.earlier.now factor made.new.earlier (omega arith)
          (λ i from. c.requires.earlier_below i (omega arith)) made.ensures.earlier;
      earlier_unit = unit-taken m (m - 1) made.result c.args.gap c.args.inverse (slice_index c.args.above.now (length rest - 1 + c.args.gap)) c.args.earlier.now factor made.new.earlier
          predecessor large c.requires.factor_some c.requires.factor_unit c.requires.above_unit inverse_unit made.ensures.factor c.requires.earlier_below made.ensures.earlier;
      agree = λ n t v agrees above_agrees.
          agrees-added m made.result c.args.gap n t v c.args.above.now rest c.args.earlier.now factor made.new.above made.new.earlier made.ensures.above made.ensures.earlier agrees above_agrees;
    }

pub loop-shift-preserved : goal.loop-shift-preserved
loop-shift-preserved c =
    let m = value_of c.args.m in
    let rest = c.args.rest.now in
    let factor = c.args.factor.now in
    let shift = c.loop-shift.shift - 1 in
    let made = c.take_multiple-in-loop-shift in
    let so_far = c.loop-shift.invariant in
    let place = length factor - 1 + c.args.gap in
    record {
      above_residues = made.ensures.above_residues;
      earlier_residues = made.ensures.earlier_residues;
      above_below = below-taken m made.result shift c.args.inverse c.loop-shift.above rest made.new.above c.requires.rest_some c.requires.inverse
          made.ensures.factor (λ i from. so_far.above_below i (omega arith)) made.ensures.above;
      earlier_below = below-added m made.result shift (length factor + c.args.gap) c.loop-shift.earlier factor made.new.earlier (omega arith)
          so_far.earlier_below made.ensures.earlier;
      earlier_unit = unit-cong m (slice_index c.loop-shift.earlier place) (slice_index made.new.earlier place)
          (sym (entry-kept m made.result shift c.loop-shift.earlier factor made.new.earlier made.ensures.earlier place (omega arith))) so_far.earlier_unit;
      agree = λ n t v agrees above_agrees.
          agrees-added m made.result shift n t v c.loop-shift.above rest c.loop-shift.earlier factor made.new.above made.new.earlier made.ensures.above made.ensures.earlier agrees
          (so_far.agree n t v agrees above_agrees);
    }
