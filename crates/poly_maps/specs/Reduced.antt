-- What quotients leave modulo m.
use Rattle.std.specs.Prelude.{ℕ, zero, suc, ◌+◌, ◌-◌, ◌*◌, ◌%◌, ℤ, pos, negsuc, List, [], ◌∷◌, map, Option, Some, None}
use Rattle.prime_field.specs.Residue.{IsUnit, inverse}
use Rattle.poly_maps.specs.Bound.{WithinBound}
use Rattle.poly_maps.specs.Polynomial.{Supported, value_at}
use Rattle.poly_maps.specs.Quotient.{RationalPair}
use Rattle.poly_maps.specs.declared.bound.Bounds.{Bounds}
use Rattle.poly_maps.specs.declared.fraction.Frac.{Frac}
use Rattle.poly_maps.specs.declared.pair.Pair.{Pair}

-- the residue of a whole number that has a sign
abbrev pub signed_residue : ℕ → ℤ → ℕ
signed_residue m (pos n) = n % m
signed_residue m (negsuc n) = (m - (n + 1) % m) % m

abbrev pub or_zero : Option ℕ → ℕ
or_zero None = 0
or_zero (Some b) = b

-- the numerator's residue times the inverse of the denominator
abbrev pub residue : ℕ → Frac → ℕ
residue m f = (signed_residue m f.num * or_zero (inverse m f.den)) % m

-- the term in front, unless its coefficient is zero
abbrev pub with_term : List ℕ → ℕ → List (List ℕ × ℕ) → List (List ℕ × ℕ)
with_term e zero p = p
with_term e (suc c) p = (e, suc c) ∷ p

-- each coefficient's residue; a term whose residue is zero is left out
abbrev pub residues : ℕ → List (List ℕ × Frac) → List (List ℕ × ℕ)
residues m [] = []
residues m (t ∷ p) = with_term t.0 (residue m t.1) (residues m p)

-- the pair of residues that a quotient leaves
abbrev pub residue_pair : ℕ → RationalPair → Pair
residue_pair m F = record { num = residues m F.num; den = residues m F.den }

-- the denominator of each coefficient is a unit
abbrev pub HaveUnits : ℕ → List (List ℕ × Frac) → Type 0
HaveUnits m [] = Unit {0}
HaveUnits m (t ∷ p) = IsUnit m t.1.den × HaveUnits m p

pub record HasUnits (m : ℕ) (F : RationalPair) : Type 0 where
  pub num : HaveUnits m F.num
  pub den : HaveUnits m F.den

-- the value of a quotient at a point: the numerator's residue times the inverse of the denominator's
abbrev pub own_value : ℕ → RationalPair → List ℕ → ℕ
own_value m F x = (value_at (residues m F.num) x * or_zero (inverse m (value_at (residues m F.den) x % m))) % m

abbrev pub own_values : ℕ → RationalPair → List (List ℕ) → List ℕ
own_values m F xs = map (own_value m F) xs

-- both parts are within their bounds
pub record HasWithin (b : Bounds) (F : RationalPair) : Type 0 where
  pub num : Supported (WithinBound b.num) F.num
  pub den : Supported (WithinBound b.den) F.den
