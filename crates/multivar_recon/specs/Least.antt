-- Least pairs: the simplest pairs modulo m that agree with samples.
use Rattle.std.specs.Prelude.{◌≡◌, ◌≢◌, ℕ, ◌%◌, List, [], ◌∷◌, Some}
use Rattle.std.specs.declared.cmp.Ordering.TheVariants.{Less}
use Rattle.poly_maps.specs.Bound.{IsWithin}
use Rattle.poly_maps.specs.Mono.{mono_cmp, HasEight}
use Rattle.poly_maps.specs.Pair.{Agrees, WithinBounds}
use Rattle.poly_maps.specs.Polynomial.{coefficient, leading, AreResidues, IsPolynomial, Supported}
use Rattle.poly_maps.specs.declared.bound.Bounds.{Bounds}
use Rattle.poly_maps.specs.declared.pair.Pair.{Pair}

-- modulo m each coefficient of the polynomial is 0
abbrev pub Vanishes : ℕ → List (List ℕ × ℕ) → Type 0
Vanishes m p = (e : List ℕ) → coefficient e p % m ≡ 0

-- modulo m each coefficient at `lead` or at a greater monomial is 0
abbrev pub VanishesFrom : ℕ → List ℕ → List (List ℕ × ℕ) → Type 0
VanishesFrom m lead p = (e : List ℕ) → mono_cmp e lead ≢ Less → coefficient e p % m ≡ 0

-- the coefficient of the first term, which is that of the leading monomial where monomials descend; 0 for zero
abbrev pub leading_coefficient : List (List ℕ × ℕ) → ℕ
leading_coefficient [] = 0
leading_coefficient (t ∷ p) = t.1

-- both parts are finite maps from monomials to residues modulo m other than 0
pub record IsPairModulo (m : ℕ) (f : Pair) : Type 0 where
  pub num : IsPolynomial f.num
  pub den : IsPolynomial f.den
  pub num_residues : AreResidues m f.num
  pub den_residues : AreResidues m f.den

-- a pair modulo m within the bounds that agrees with the samples vs at the points xs
pub record IsAgreeing (m : ℕ) (b : Bounds) (xs : List (List ℕ)) (vs : List ℕ) (f : Pair) : Type 0 where
  pub pair : IsPairModulo m f
  pub within : WithinBounds b f
  pub agrees : Agrees m xs vs f

-- each term of the numerator and of the denominator is within its bound. Terms stand in any order here, may share a
-- monomial, and may add up to 0
pub record AreWithin (b : Bounds) (f : Pair) : Type 0 where
  pub num_eight : Supported HasEight f.num
  pub den_eight : Supported HasEight f.den
  pub num : IsWithin b.num f.num
  pub den : IsWithin b.den f.den

-- the pair agrees with the samples, its denominator has coefficient 1 at its leading monomial, and no agreeing pair
-- within the bounds has a denominator other than 0 modulo m whose monomials are all less than that
pub record IsLeastPair (m : ℕ) (b : Bounds) (xs : List (List ℕ)) (vs : List ℕ) (f : Pair) : Type 0 where
  pub agreeing : IsAgreeing m b xs vs f
  pub monic : leading_coefficient f.den ≡ 1
  pub least : (lead : List ℕ) → leading f.den ≡ Some lead → (g : Pair) → AreWithin b g → Agrees m xs vs g →
      VanishesFrom m lead g.den → Vanishes m g.den
