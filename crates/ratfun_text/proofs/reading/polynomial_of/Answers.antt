use Rattle.std.proofs.Common.{◌∙◌, ◌-◌, sym, subst, arith}
use Rattle.poly_maps.specs.Fraction.{IsRational}
use Rattle.poly_maps.specs.Polynomial.{AreAbove}
use Rattle.ratfun_text.proofs.ReadBack.{not_reduced, not_falling, first_follows, next_follows, absent, one_more}
use Rattle.ratfun_text.proofs.reading.polynomial_of.Goals.{else-i-gt0-via-then-i-gt0+else-ge, else-i-gt0-via-else-i-gt0, Joined-else-i-gt0}
use Rattle.ratfun_text.proofs.reading.polynomial_of.Goals as goal

pub returns-then-not-is_reduced : goal.returns-then-not-is_reduced
returns-then-not-is_reduced c = not_reduced c.args.terms.now c.loop-i.i c.index-terms-i.result c.is_reduced.result c.if-not-is_reduced.true c.is_reduced.ensures.1 c.index-terms-i.is (omega arith)

pub returns-then-ge : goal.returns-then-ge
returns-then-ge c = not_falling c.args.terms.now c.loop-i.i (c.loop-i.i - 1) c.index-terms-i.result c.index-terms-i-then-i-gt0.result (omega arith) c.index-terms-i.is (omega arith) (sym c.if-ge.true ∙ c.ge.ensures)

above : (c : Joined-else-i-gt0) → IsRational c.loop-i.polynomial → AreAbove c.index-terms-i.result.0 c.loop-i.polynomial
above c r =
    elim c.else-i-gt0.branch [
      | else-i-gt0-via-then-i-gt0+else-ge w ↦ next_follows c.args.terms.now c.loop-i.polynomial c.loop-i.i (c.loop-i.i - 1) c.index-terms-i.result.0 w.index-terms-i-then-i-gt0.result r c.loop-i.invariant (omega (arith, w.if-i-gt0.true)) (omega arith) (sym w.if-ge.false ∙ w.ge.ensures)
      | else-i-gt0-via-else-i-gt0 w ↦ first_follows c.args.terms.now c.loop-i.polynomial c.loop-i.i c.index-terms-i.result.0 c.loop-i.invariant (omega arith) (omega (arith, w.if-i-gt0.false))
    ]

pub add_term-requires-clause-absent : goal.add_term-requires-clause-absent
add_term-requires-clause-absent c =
    let r : IsRational c.loop-i.polynomial = subst IsRational c.polynomial.view_is c.polynomial.invariant in
    absent c.loop-i.polynomial c.index-terms-i.result.0 (above (goal.at.add_term-requires-clause-absent c).Joined-else-i-gt0 r)

pub loop-i-preserved : goal.loop-i-preserved
loop-i-preserved c =
    let r : IsRational c.loop-i.polynomial = subst IsRational c.polynomial.view_is c.polynomial.invariant in
    one_more c.args.terms.now c.loop-i.polynomial c.add_term.new.self c.loop-i.i c.index-terms-i.result c.loop-i.invariant c.index-terms-i.is (omega arith) (c.in_ok-add_term.ensures.last (above (goal.at.loop-i-preserved c).Joined-else-i-gt0 r))
