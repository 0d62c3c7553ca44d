-- Fractions with a given residue.
use Rattle.std.specs.Prelude.{◌≡◌, ℕ, ◌+◌, ◌*◌, ◌%◌, ◌≤◌, ℤ, pos, negsuc, unsigned_abs}
use Rattle.prime_field.specs.Residue.{IsUnit}
use Rattle.poly_maps.specs.Fraction.{IsLowest}
use Rattle.poly_maps.specs.Reduced.{residue}
use Rattle.poly_maps.specs.declared.fraction.Frac.{Frac}

-- the fraction is in lowest terms, its numerator's size is at most n and its denominator at most d, and it leaves c modulo m
pub record IsRecovery (m c n d : ℕ) (f : Frac) : Type 0 where
  pub lowest : IsLowest f
  pub num : unsigned_abs f.num ≤ n
  pub den : f.den ≤ d
  pub unit : IsUnit m f.den
  pub residue : residue m f ≡ c

-- c times t leaves the whole number z modulo m
abbrev pub IsTied : ℕ → ℕ → ℤ → ℕ → Type 0
IsTied m c (pos n) t = (c * t) % m ≡ n % m
IsTied m c (negsuc n) t = (c * t + (n + 1)) % m ≡ 0 % m
