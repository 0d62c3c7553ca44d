-- The two moduli as numbers.
use Rattle.std.specs.Prelude.{ℕ}
use Rattle.prime_field.specs.declared.Modulus.{Modulus}
use Rattle.prime_field.specs.declared.Modulus.TheVariants.{First, Second}

-- the modulus itself: 2^61 - 1, or 2^63 - 25
abbrev pub value_of : Modulus → ℕ
value_of First = 2305843009213693951
value_of Second = 9223372036854775783

-- which of the two it is, counted from 1
abbrev pub number_of : Modulus → ℕ
number_of First = 1
number_of Second = 2
