use Rattle.std.proofs.Common.{◌≡◌, ◌*◌, ◌%◌, true, false, arith, refl, sym}
use Rattle.prime_field.specs.Modulus.{value_of}
use Rattle.prime_field.proofs.Euclid.{Kept-next, Kept-at, found-low, found-product, zero-no_unit, zero-no_prime}
use Rattle.prime_field.proofs.Units.{inverse_is, inverse_none}
use Rattle.prime_field.proofs.Modulus.inv.Goals as goal

pub loop-rest-preserved : goal.loop-rest-preserved
loop-rest-preserved c = Kept-next _ _ _ _ _ _ _ c.loop-rest.invariant c.loop-rest-test.true

pub returns-then-rest-ne1-clause-none : goal.returns-then-rest-ne1-clause-none
returns-then-rest-ne1-clause-none c =
    zero-no_unit _ _ _ _ _ _ (Kept-at 0 _ (omega arith) refl c.loop-rest.invariant)

pub returns-then-rest-ne1-clause-prime : goal.returns-then-rest-ne1-clause-prime
returns-then-rest-ne1-clause-prime c prime some =
    absurd (zero-no_prime _ _ _ _ _ _ (Kept-at 0 _ (omega arith) refl c.loop-rest.invariant) c.requires some prime)

pub returns-then-rest-ne1-clause-value : goal.returns-then-rest-ne1-clause-value
returns-then-rest-ne1-clause-value c =
    sym (inverse_none _ _ (zero-no_unit _ _ _ _ _ _ (Kept-at 0 _ (omega arith) refl c.loop-rest.invariant)))

pub returns-then-is_negative-clause-inverse : goal.returns-then-is_negative-clause-inverse
returns-then-is_negative-clause-inverse c =
    rw c.neg.ensures.negative
    (found-product _ _ _ _ _ true (Kept-at 1 true (omega arith) c.if-is_negative.true c.loop-rest.invariant))

pub returns-then-is_negative-clause-value : goal.returns-then-is_negative-clause-value
returns-then-is_negative-clause-value c =
    let product : (c.args.a * c.neg.result) % value_of c.args.self.now ≡ 1 =
    rw c.neg.ensures.negative
    (found-product _ _ _ _ _ true (Kept-at 1 true (omega arith) c.if-is_negative.true c.loop-rest.invariant)) in
    sym (inverse_is _ _ _ c.neg.ensures.residue product)

pub returns-else-is_negative-clause-value : goal.returns-else-is_negative-clause-value
returns-else-is_negative-clause-value c =
    let kept = Kept-at 1 false (omega arith) c.if-is_negative.false c.loop-rest.invariant in
    sym (inverse_is _ _ _ (found-low _ _ _ _ _ false kept) (found-product _ _ _ _ _ false kept))
