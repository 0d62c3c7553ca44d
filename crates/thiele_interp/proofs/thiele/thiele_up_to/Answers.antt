use Rattle.std.proofs.Common.{◌≡◌, suc, ◌-◌, length, take, drop, slice_index, arith}
use Rattle.prime_field.specs.Modulus.{value_of}
use Rattle.prime_field.proofs.Moduli.{value_of-large}
use Rattle.thiele_interp.specs.Pairs.{IsLeastPair, IsReducedPair}
use Rattle.thiele_interp.proofs.Ends.{at_front}
use Rattle.thiele_interp.proofs.Closing.{closing-least, some-both, none-follows, written-num, written-den, answered, unanswered}
use Rattle.thiele_interp.proofs.thiele.thiele_up_to.Goals as goal

pub returns-in_err-level-clause-none : goal.returns-in_err-level-clause-none
returns-in_err-level-clause-none c =
    rw c.from_residual.ensures (λ prime e low answers. c.in_err-level.ensures.none e low answers.closes)

pub returns-clause-reduced : goal.returns-clause-reduced
returns-clause-reduced c =
    at_front (λ num den. IsReducedPair (value_of c.args.m) num den) c.scaled_pair-found.result c.scaled_pair-found.new.num _ c.scaled_pair-found.ensures.room c.scaled_pair-found.ensures.reduced

pub returns-clause-least : goal.returns-clause-least
returns-clause-least c =
    let m = value_of c.args.m in
    let n = length c.args.points.now in
    let t = slice_index c.args.points.now in
    let v = slice_index c.args.values.now in
    let e = c.in_ok-level.level in
    let found = c.scaled_pair-found in
    let formed = c.write_form in
    let num_alike = written-num m t v e c.closing_level.new.differences formed.new.num c.in_ok-level.ensures.coefficients formed.ensures.num in
    let den_alike = written-den m t v e c.closing_level.new.differences formed.new.den c.in_ok-level.ensures.coefficients formed.ensures.den in
    let predecessor : suc (m - 1) ≡ m = omega (arith, value_of-large c.args.m) in
    at_front (λ num den. IsLeastPair m n t v c.args.a c.args.b num den) found.result found.new.num _ found.ensures.room
    (some-both found.result _ _ _
    (λ r scaled fits.
    closing-least m (m - 1) n t v c.args.a c.args.b e formed.new.num formed.new.den (take r.0 found.new.num) (take r.1 (drop r.0 found.new.num)) predecessor (value_of-large c.args.m)
    c.requires.points c.requires.values c.requires.apart c.requires.few
    (answered m n t v c.args.a c.args.b e formed.new.num formed.new.den c.in_ok-level.ensures.closes num_alike den_alike fits)
    num_alike den_alike scaled)
    found.ensures.scaled found.ensures.fits)

pub returns-clause-closes : goal.returns-clause-closes
returns-clause-closes c =
    let m = value_of c.args.m in
    let n = length c.args.points.now in
    let t = slice_index c.args.points.now in
    let v = slice_index c.args.values.now in
    let e = c.in_ok-level.level in
    let found = c.scaled_pair-found in
    let formed = c.write_form in
    let num_alike = written-num m t v e c.closing_level.new.differences formed.new.num c.in_ok-level.ensures.coefficients formed.ensures.num in
    let den_alike = written-den m t v e c.closing_level.new.differences formed.new.den c.in_ok-level.ensures.coefficients formed.ensures.den in
    some-both found.result _ _ _
    (λ r scaled fits. (
      e,
      c.in_ok-level.ensures.low,
      answered m n t v c.args.a c.args.b e formed.new.num formed.new.den c.in_ok-level.ensures.closes num_alike den_alike fits,
    ))
    found.ensures.scaled found.ensures.fits

pub returns-clause-none : goal.returns-clause-none
returns-clause-none c =
    let m = value_of c.args.m in
    let n = length c.args.points.now in
    let t = slice_index c.args.points.now in
    let v = slice_index c.args.values.now in
    let e = c.in_ok-level.level in
    let found = c.scaled_pair-found in
    let formed = c.write_form in
    let num_alike = written-num m t v e c.closing_level.new.differences formed.new.num c.in_ok-level.ensures.coefficients formed.ensures.num in
    let den_alike = written-den m t v e c.closing_level.new.differences formed.new.den c.in_ok-level.ensures.coefficients formed.ensures.den in
    none-follows found.result _ _
    (λ unfit prime f low.
    unanswered m n t v c.args.a c.args.b e formed.new.num formed.new.den c.requires.values c.in_ok-level.ensures.closes num_alike den_alike (unfit prime) f)
    found.ensures.none
