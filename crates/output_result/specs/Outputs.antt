-- The samples of one output, and the pairs and the quotients that agree with them.
use Rattle.std.specs.Prelude.{◌≢◌, ℕ, ◌%◌, List, All}
use Rattle.prime_field.specs.Modulus.{value_of}
use Rattle.prime_field.specs.declared.Modulus.{Modulus}
use Rattle.poly_maps.specs.Forcing.{IsForcing}
use Rattle.poly_maps.specs.Pair.{Agrees}
use Rattle.poly_maps.specs.Polynomial.{value_at}
use Rattle.poly_maps.specs.Quotient.{RationalPair, IsQuotientMap}
use Rattle.poly_maps.specs.Reduced.{residue_pair, own_values, HasUnits, HasWithin}
use Rattle.poly_maps.specs.declared.bound.Bound.{Bound}
use Rattle.poly_maps.specs.declared.bound.Bounds.{Bounds}
use Rattle.poly_maps.specs.declared.pair.Pair.{Pair}
use Rattle.ray_grid.specs.Covering.{Covers}
use Rattle.multivar_recon.specs.Least.{IsAgreeing, IsLeastPair}
use Rattle.rational_lift.specs.Lifting.{HasInside}
use Rattle.rational_lift.specs.declared.coeff.Coeff.{Coeff}

-- points, and the value at each
pub record Samples : Type 0 where
  pub points : List (List ℕ)
  pub values : List ℕ

-- one output: the bounds on its degrees, and its samples at each modulus
pub record Output : Type 0 where
  pub bounds : Bounds
  pub samples : Modulus → Samples

-- a pair within the bounds that agrees with the samples at the modulus
abbrev pub AgreesAt : Output → Modulus → Pair → Type 0
AgreesAt o m f = IsAgreeing (value_of m) o.bounds (o.samples m).points (o.samples m).values f

-- the least of these
abbrev pub IsLeastAt : Output → Modulus → Pair → Type 0
IsLeastAt o m f = IsLeastPair (value_of m) o.bounds (o.samples m).points (o.samples m).values f

-- a quotient within the bounds on degrees and on coefficients whose residues agree with the samples at both moduli
pub record IsQuotient (c : Coeff) (o : Output) (F : RationalPair) : Type 0 where
  pub map : IsQuotientMap F
  pub within : HasWithin o.bounds F
  pub inside : HasInside c F
  pub agrees : (m : Modulus) → Agrees (value_of m) (o.samples m).points (o.samples m).values (residue_pair (value_of m) F)

-- modulo m the quotient has residues, its denominator is zero at none of the points, and the pair of its residues is the
-- least one that agrees with its own values there
pub record ReducesWell (m : ℕ) (b : Bounds) (xs : List (List ℕ)) (F : RationalPair) : Type 0 where
  pub units : HasUnits m F
  pub nowhere_zero : All (λ x. value_at (residue_pair m F).den x % m ≢ 0) xs
  pub least : IsLeastPair m b xs (own_values m F xs) (residue_pair m F)

-- it does so at both moduli, at the points of the samples
abbrev pub ReducesWellAt : Output → RationalPair → Type 0
ReducesWellAt o F = (m : Modulus) → ReducesWell (value_of m) o.bounds (o.samples m).points F

-- at each modulus the points are forcing for a grid that covers the bounds
pub record IsPinned (grid : Bound) (o : Output) : Type 0 where
  pub covers : Covers grid o.bounds
  pub forcing : (m : Modulus) → IsForcing (value_of m) grid (o.samples m).points
