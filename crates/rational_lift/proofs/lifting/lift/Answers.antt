use Rattle.std.proofs.Common.{◌≡◌, Some, sym, ◌∙◌}
use Rattle.std.proofs.lemmas.Result.{err_from_is_err_and}
use Rattle.poly_maps.specs.Polynomial.{leading}
use Rattle.rational_lift.proofs.Leads.{leads_with_one, both_lifted, num_tells, den_tells, not_apart}
use Rattle.rational_lift.proofs.lifting.lift.Goals as goal

pub returns-in_err-num-clause-err : goal.returns-in_err-num-clause-err
returns-in_err-num-clause-err c =
    let one = c.leading.ensures in
    let two = c.unwrap-lead1.ensures in
    let three = c.leading-2.ensures in
    let four = c.unwrap-lead2.ensures in
    let same = not_apart c.unwrap-lead1.result c.unwrap-lead2.result c.ne.result c.ne.ensures c.if-ne.false in
    let first : leading c.args.p1.now.den ≡ Some c.unwrap-lead1.result = cc in
    let second : leading c.args.p2.now.den ≡ Some c.unwrap-lead1.result = cc in
    let told = err_from_is_err_and c.from_residual.result c.from_residual.ensures.1 in
    rw (told.1, told.2) (num_tells c.args.coeff.now c.args.p1.now c.args.p2.now c.in_err-num.field-0.0 (first ∙ sym second) c.in_err-num.ensures.err)

pub returns-in_err-den-clause-err : goal.returns-in_err-den-clause-err
returns-in_err-den-clause-err c =
    let one = c.leading.ensures in
    let two = c.unwrap-lead1.ensures in
    let three = c.leading-2.ensures in
    let four = c.unwrap-lead2.ensures in
    let same = not_apart c.unwrap-lead1.result c.unwrap-lead2.result c.ne.result c.ne.ensures c.if-ne.false in
    let first : leading c.args.p1.now.den ≡ Some c.unwrap-lead1.result = cc in
    let second : leading c.args.p2.now.den ≡ Some c.unwrap-lead1.result = cc in
    let told = err_from_is_err_and c.from_residual-in_err-den.result c.from_residual-in_err-den.ensures.1 in
    rw (told.1, told.2) (den_tells c.args.coeff.now c.args.p1.now c.args.p2.now c.in_ok-num.num c.in_err-den.field-0.0 (first ∙ sym second) c.requires.den c.in_ok-num.ensures.ok c.in_err-den.ensures.err)

pub new-requires : goal.new-requires
new-requires c =
    let one = c.leading.ensures in
    let two = c.unwrap-lead1.ensures in
    let three = c.leading-2.ensures in
    let four = c.unwrap-lead2.ensures in
    let same = not_apart c.unwrap-lead1.result c.unwrap-lead2.result c.ne.result c.ne.ensures c.if-ne.false in
    let first : leading c.args.p1.now.den ≡ Some c.unwrap-lead1.result = cc in
    let second : leading c.args.p2.now.den ≡ Some c.unwrap-lead1.result = cc in
    leads_with_one c.args.coeff.now c.args.p1.now.den c.args.p2.now.den c.in_ok-den.den c.unwrap-lead1.result c.requires.num c.requires.den c.requires.narrow
    c.terms-first.ensures.polynomial.0 c.terms-second.ensures.polynomial.0 c.requires.first_lead c.requires.second_lead first second c.in_ok-den.ensures.ok

pub returns-clause-ok : goal.returns-clause-ok
returns-clause-ok c =
    both_lifted c.args.coeff.now c.args.p1.now c.args.p2.now c.new.result c.new.ensures.map
    (rw c.new.ensures.parts c.in_ok-num.ensures.ok) (rw c.new.ensures.parts c.in_ok-den.ensures.ok)
