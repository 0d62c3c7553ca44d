use Rattle.std.proofs.Common.{◌≡◌, ◌<◌, suc, ◌+◌, ◌-◌, ◌%◌, length, slice_index, refl, sym, ◌∙◌, ap, arith}
use Rattle.prime_field.specs.Modulus.{value_of}
use Rattle.prime_field.specs.Residue.{IsUnit}
use Rattle.prime_field.proofs.Moduli.{value_of-large}
use Rattle.prime_field.proofs.Units.{unit-cong}
use Rattle.univariate.specs.Coefficients.{sum_of, multiple, raised, IsBelow}
use Rattle.thiele_interp.proofs.Dividing.{below-taken, below-added, unit-taken, entry-kept, agrees-added, near-entry}
use Rattle.thiele_interp.proofs.euclid.divide_near.Goals as goal

pub returns : goal.returns
returns c =
    let m = value_of c.args.m in
    let above = c.args.above.now in
    let rest = c.args.rest.now in
    let earlier = c.args.earlier.now in
    let factor = c.args.factor.now in
    let high = c.opposite_quotient-high.result in
    let low = c.opposite_quotient-low.result in
    let above_between = sum_of above (multiple high (raised 1 rest)) in
    let earlier_between = sum_of earlier (multiple high (raised 1 factor)) in
    let above_left = c.add_two_multiples.new.target in
    let factor_left = c.add_two_multiples-2.new.target in
    let above_made = c.add_two_multiples.ensures.sum in
    let factor_made = c.add_two_multiples-2.ensures.sum in
    let last = slice_index rest (length rest - 1) in
    let some : 0 < length rest = omega arith in
    let large = value_of-large c.args.m in
    let predecessor : suc (m - 1) ≡ m = omega arith in
    let inverse_unit : IsUnit m c.args.inverse = (last, c.requires.rest_residues (length rest - 1), ap (λ t. t % m) (omega arith) ∙ c.requires.inverse) in
    let between_below : IsBelow m (length rest - 1 + 1) above_between =
    below-taken m high 1 c.args.inverse above rest above_between some c.requires.inverse c.opposite_quotient-high.ensures.opposite c.requires.above_below (λ i. refl) in
    let place = length factor - 1 + 1 in
    let between_unit : IsUnit m (slice_index earlier_between place) =
    unit-taken m (m - 1) high 1 c.args.inverse (slice_index above (length rest - 1 + 1)) earlier factor earlier_between predecessor large c.requires.factor_some c.requires.factor_unit
    c.requires.above_unit inverse_unit c.opposite_quotient-high.ensures.opposite c.requires.earlier_below (λ i. refl) in
    let below : IsBelow m (length rest - 1 + 0) above_left =
    below-taken m low 0 c.args.inverse above_between rest above_left some c.requires.inverse
    (near-entry m high low c.fused-next.result c.args.inverse (length rest - 1) above rest (omega arith) c.fused-next.ensures.sum c.opposite_quotient-low.ensures.opposite)
    (λ i from. between_below i (omega arith)) above_made in
    record {
      above_residues = c.add_two_multiples.ensures.residues;
      earlier_residues = c.add_two_multiples-2.ensures.residues;
      above_below = λ i from. below i (omega arith);
      earlier_below = below-added m low 0 (length factor + 1) earlier_between factor factor_left (omega arith)
          (below-added m high 1 (length factor + 1) earlier factor earlier_between (omega arith) (λ i from. c.requires.earlier_below i (omega arith)) (λ i. refl)) factor_made;
      earlier_unit = unit-cong m (slice_index earlier_between place) (slice_index factor_left place)
          (sym (entry-kept m low 0 earlier_between factor factor_left factor_made place (omega arith))) between_unit;
      agree = λ n t v agrees above_agrees.
          agrees-added m low 0 n t v above_between rest earlier_between factor above_left factor_left above_made factor_made agrees
          (agrees-added m high 1 n t v above rest earlier factor above_between earlier_between (λ i. refl) (λ i. refl) agrees above_agrees);
    }
