use Rattle.std.proofs.Common.{ℕ, sym, subst}
use Rattle.prime_field.specs.Modulus.{value_of}
use Rattle.thiele_interp.specs.Remainders.{IsDividedBy}
use Rattle.thiele_interp.proofs.euclid.divide.Goals as goal

pub returns-then-gap-eq1 : goal.returns-then-gap-eq1
returns-then-gap-eq1 c =
    subst (λ (gap : ℕ). IsDividedBy (value_of c.args.m) gap c.args.above.now c.args.rest.now c.args.earlier.now c.args.factor.now c.divide_near.new.above c.divide_near.new.earlier)
    (sym c.if-gap-eq1.true) c.divide_near.ensures
