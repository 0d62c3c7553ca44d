use Rattle.std.proofs.Common.{◌∙◌, sym, true, false, arith}
use Rattle.rational_lift.proofs.Nearest.{Step-next}
use Rattle.rational_lift.proofs.Candidates.{candidate_only, signed-no_unit, positive-read, negative-read}
use Rattle.rational_lift.proofs.recovery.candidate.Goals as goal

pub loop-rest-preserved : goal.loop-rest-preserved
loop-rest-preserved c = Step-next _ _ _ _ _ _ _ _ c.requires.some c.loop-rest.invariant c.loop-rest-test.true

pub returns-then-is_negative-clause-only : goal.returns-then-is_negative-clause-only
returns-then-is_negative-clause-only c d narrow f is =
    let step = rw c.if-is_negative.true at c.loop-rest.invariant in
    let read = negative-read c.loop-rest.rest (omega (arith, c.requires.small, c.requires.modulus)) in
    candidate_only _ _ _ d _ c.loop-rest.rest _ c.loop-rest.factor true step (omega arith) narrow f is ∙
    (λ i. record { num = sym read i; den = c.loop-rest.factor })

pub returns-then-is_negative-clause-no_unit : goal.returns-then-is_negative-clause-no_unit
returns-then-is_negative-clause-no_unit c none =
    let step = rw c.if-is_negative.true at c.loop-rest.invariant in
    signed-no_unit _ _ _ _ c.loop-rest.rest _ _ true step (sym (negative-read c.loop-rest.rest (omega (arith, c.requires.small, c.requires.modulus))) ∙ none)

pub returns-else-is_negative-clause-only : goal.returns-else-is_negative-clause-only
returns-else-is_negative-clause-only c d narrow f is =
    let step = rw c.if-is_negative.false at c.loop-rest.invariant in
    let read = positive-read c.loop-rest.rest (omega (arith, c.requires.small, c.requires.modulus)) in
    candidate_only _ _ _ d _ c.loop-rest.rest _ c.loop-rest.factor false step (omega arith) narrow f is ∙
    (λ i. record { num = sym read i; den = c.loop-rest.factor })

pub returns-else-is_negative-clause-no_unit : goal.returns-else-is_negative-clause-no_unit
returns-else-is_negative-clause-no_unit c none =
    let step = rw c.if-is_negative.false at c.loop-rest.invariant in
    signed-no_unit _ _ _ _ c.loop-rest.rest _ _ false step (sym (positive-read c.loop-rest.rest (omega (arith, c.requires.small, c.requires.modulus))) ∙ none)
