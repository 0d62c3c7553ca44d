use Rattle.std.proofs.Common.{◌<◌, refl, sym, subst}
use Rattle.prime_field.specs.Modulus.{value_of}
use Rattle.prime_field.specs.declared.Modulus.TheVariants.{First, Second}
use Rattle.rational_lift.specs.Parts.{at_both}
use Rattle.rational_lift.proofs.Bridge.{recovery-liftable, recovery-left, recovers-recovery, joint_of}
use Rattle.rational_lift.proofs.Going.{going-next, going-end, top-fraction, top_earlier, left-low}
use Rattle.rational_lift.proofs.part.lift_part.Goals as goal

pub join-residue-requires-clause-first : goal.join-residue-requires-clause-first
join-residue-requires-clause-first c = subst (λ n. n < value_of First) (sym c.coefficient.ensures)
    (left-low c.args.first.now c.args.second.now c.in-Some.mono c.terms-left.ensures.polynomial.0 c.terms-right.ensures.polynomial.0 c.requires.first c.requires.second First)

pub join-residue-requires-clause-second : goal.join-residue-requires-clause-second
join-residue-requires-clause-second c = subst (λ n. n < value_of Second) (sym c.coefficient-in-Some.ensures)
    (left-low c.args.first.now c.args.second.now c.in-Some.mono c.terms-left.ensures.polynomial.0 c.terms-right.ensures.polynomial.0 c.requires.first c.requires.second Second)

pub add_term-requires-clause-fraction : goal.add_term-requires-clause-fraction
add_term-requires-clause-fraction c =
    let joint = joint_of (at_both c.args.first.now c.args.second.now c.in-Some.mono) _ _ c.join-residue.result c.coefficient.ensures c.coefficient-in-Some.ensures c.join-residue.ensures.joint in
    let low = left-low c.args.first.now c.args.second.now c.in-Some.mono c.terms-left.ensures.polynomial.0 c.terms-right.ensures.polynomial.0 c.requires.first c.requires.second in
    top-fraction c.args.coeff.now c.args.first.now c.args.second.now _ _ _ c.in-Some.mono c.in-Some-recover.fraction c.loop-mono.invariant c.in-Some.ensures.some
    (recovery-liftable c.args.coeff.now c.join-residue.result c.in-Some-recover.fraction c.in-Some-recover.ensures.some)
    (recovery-left c.args.coeff.now (at_both c.args.first.now c.args.second.now c.in-Some.mono) c.join-residue.result c.in-Some-recover.fraction joint c.in-Some-recover.ensures.some low)

pub returns-in-None-clause-err : goal.returns-in-None-clause-err
returns-in-None-clause-err c =
    let joint = joint_of (at_both c.args.first.now c.args.second.now c.in-Some.mono) _ _ c.join-residue.result c.coefficient.ensures c.coefficient-in-Some.ensures c.join-residue.ensures.joint in (
      refl,
      record {
        joins = joint;
        none = λ found. c.in-None.ensures.none found.fraction (recovers-recovery c.args.coeff.now (at_both c.args.first.now c.args.second.now c.in-Some.mono) c.join-residue.result joint found);
        earlier = top_earlier c.args.coeff.now c.args.first.now c.args.second.now _ _ _ c.in-Some.mono c.requires.den c.loop-mono.invariant c.in-Some.ensures.some;
      },
    )

pub loop-mono-preserved : goal.loop-mono-preserved
loop-mono-preserved c =
    let joint = joint_of (at_both c.args.first.now c.args.second.now c.in-Some.mono) _ _ c.join-residue.result c.coefficient.ensures c.coefficient-in-Some.ensures c.join-residue.ensures.joint in
    let low = left-low c.args.first.now c.args.second.now c.in-Some.mono c.terms-left.ensures.polynomial.0 c.terms-right.ensures.polynomial.0 c.requires.first c.requires.second in
    let liftable = recovery-liftable c.args.coeff.now c.join-residue.result c.in-Some-recover.fraction c.in-Some-recover.ensures.some in
    let leaves = recovery-left c.args.coeff.now (at_both c.args.first.now c.args.second.now c.in-Some.mono) c.join-residue.result c.in-Some-recover.fraction joint c.in-Some-recover.ensures.some low in
    let fraction = top-fraction c.args.coeff.now c.args.first.now c.args.second.now _ _ _ c.in-Some.mono c.in-Some-recover.fraction c.loop-mono.invariant c.in-Some.ensures.some liftable leaves in
    rw (c.after-left.ensures, c.after-right.ensures)
    (going-next c.args.coeff.now c.args.first.now c.args.second.now _ _ _ _ c.in-Some.mono c.in-Some-recover.fraction c.loop-mono.invariant c.in-Some.ensures.some fraction liftable leaves c.in_ok-add_term-in-Some-recover.ensures.ok)

pub returns-clause-ok : goal.returns-clause-ok
returns-clause-ok c =
    let end = c.in_default.ensures.none in
    let going = rw (end.0, end.1) at c.loop-mono.invariant in
    going-end c.args.coeff.now c.args.first.now c.args.second.now c.loop-mono.lifted c.terms-terms.ensures.rational c.terms-left.ensures.polynomial.0 c.terms-right.ensures.polynomial.0 going
