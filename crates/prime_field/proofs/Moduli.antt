-- How large the moduli are.
use Rattle.std.proofs.Common.{◌<◌, ◌^◌, arith}
use Rattle.prime_field.specs.declared.Modulus.{Modulus}
use Rattle.prime_field.specs.declared.Modulus.TheVariants.{First, Second}
use Rattle.prime_field.specs.Modulus.{value_of}

-- each modulus is above 1, so that 1 is a residue
pub value_of-large : (m : Modulus) → 1 < value_of m
value_of-large First = omega arith
value_of-large Second = omega arith

-- each has 63 bits at most
pub value_of-low : (m : Modulus) → value_of m < 2 ^ 63
value_of-low First = omega arith
value_of-low Second = omega arith
