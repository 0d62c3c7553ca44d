use Rattle.prime_field.specs.Modulus.{value_of}
use Rattle.prime_field.proofs.Euclid.{Kept}
use Rattle.prime_field.proofs.Modulus.inv.Given as goal

abbrev pub invariant-loop-rest : goal.invariant-loop-rest
invariant-loop-rest l = Kept (value_of l.self) l.a l.above l.rest l.earlier l.factor l.is_negative

abbrev pub decreases-loop-rest : goal.decreases-loop-rest
decreases-loop-rest l = l.rest
