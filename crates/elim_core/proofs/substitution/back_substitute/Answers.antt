use Rattle.std.proofs.Common.{◌≡◌, ℕ, ◌+◌, ◌-◌, subst, arith}
use Rattle.prime_field.specs.Modulus.{value_of}
use Rattle.prime_field.proofs.Moduli.{value_of-large}
use Rattle.elim_core.proofs.Values.{SubstitutedFrom, Substituted-empty, Substituted-more}
use Rattle.elim_core.proofs.substitution.back_substitute.Goals as goal

pub loop-place-preserved-then-ends-place-ne0 : goal.loop-place-preserved-then-ends-place-ne0
loop-place-preserved-then-ends-place-ne0 c =
    let one_less : c.loop-place.place ≡ c.loop-place.place - 1 + 1 = omega arith in
    Substituted-more _ _ _ _ _ _ _ _ (omega (arith, value_of-large c.args.modulus)) c.requires.laid_out c.requires.room (omega arith)
    c.if-ends-place-ne0.true c.solved.ensures.residue c.solved.ensures.left
    (subst (λ (x : ℕ). SubstitutedFrom (value_of c.args.modulus) c.args.unknowns c.args.rows.now c.args.ends.now c.args.values.now c.loop-place.values x)
    one_less c.loop-place.invariant)

pub loop-place-preserved : goal.loop-place-preserved
loop-place-preserved c =
    let one_less : c.loop-place.place ≡ c.loop-place.place - 1 + 1 = omega arith in
    Substituted-empty _ _ _ _ _ _ _ c.requires.laid_out (omega arith) c.if-ends-place-ne0.false
    (subst (λ (x : ℕ). SubstitutedFrom (value_of c.args.modulus) c.args.unknowns c.args.rows.now c.args.ends.now c.args.values.now c.loop-place.values x)
    one_less c.loop-place.invariant)
