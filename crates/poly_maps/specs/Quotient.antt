-- Quotients of polynomials whose coefficients are fractions.
use Rattle.std.specs.Prelude.{ℕ, List}
use Rattle.poly_maps.specs.Fraction.{IsRational, LeadsWithOne}
use Rattle.poly_maps.specs.declared.fraction.Frac.{Frac}

-- a numerator and a denominator
pub record RationalPair : Type 0 where
  pub num : List (List ℕ × Frac)
  pub den : List (List ℕ × Frac)

-- the leading coefficient of the denominator is 1; so the denominator isn't zero
pub record IsQuotientMap (F : RationalPair) : Type 0 where
  pub num : IsRational F.num
  pub den : IsRational F.den
  pub leads : LeadsWithOne F.den
