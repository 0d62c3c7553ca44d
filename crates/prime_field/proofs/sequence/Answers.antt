use Rattle.std.proofs.Common.{◌*◌, refl, ap, add-one, arith}
use Rattle.prime_field.specs.Sequence.{word}
use Rattle.prime_field.proofs.sequence.Goals as goal

pub loop-init : goal.loop-init
unfolding word
loop-init c = refl

pub loop-preserved : goal.loop-preserved
unfolding word
loop-preserved c =
    rw add-one
    (omega (arith, ap (λ t. 6364136223846793005 * t) c.loop.invariant))
