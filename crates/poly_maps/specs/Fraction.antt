-- Fractions, and polynomials whose coefficients are fractions: lists of terms whose monomials descend.
use Rattle.std.specs.Prelude.{◌≡◌, ◌≢◌, ℕ, ◌<◌, pos, unsigned_abs, List, [], ◌∷◌, Option, Some, None, if◌then◌else◌}
use Rattle.std.specs.Int.{IsGcd}
use Rattle.poly_maps.specs.Mono.{is_same, HasEight}
use Rattle.poly_maps.specs.Polynomial.{Descends, Supported}
use Rattle.poly_maps.specs.declared.fraction.Frac.{Frac}

-- a fraction in lowest terms; of the fractions that are zero only 0/1 is
pub record IsLowest (f : Frac) : Type 0 where
  pub positive : 0 < f.den
  pub lowest : IsGcd (unsigned_abs f.num) f.den 1

-- a fraction in lowest terms that isn't zero
pub record IsFraction (f : Frac) : Type 0 where
  pub some : unsigned_abs f.num ≢ 0
  pub positive : 0 < f.den
  pub lowest : IsGcd (unsigned_abs f.num) f.den 1

-- each coefficient is a fraction in lowest terms that isn't zero
abbrev pub AreFractions : List (List ℕ × Frac) → Type 0
AreFractions [] = Unit {0}
AreFractions (t ∷ p) = IsFraction t.1 × AreFractions p

-- a finite map from monomials of eight variables to fractions that aren't zero
pub record IsRational (p : List (List ℕ × Frac)) : Type 0 where
  pub fractions : AreFractions p
  pub descends : Descends p
  pub eight : Supported HasEight p

-- the fraction that stands at the monomial, if there is one
abbrev pub fraction_at : List ℕ → List (List ℕ × Frac) → Option Frac
fraction_at e [] = None
fraction_at e (t ∷ p) = if is_same t.0 e then Some t.1 else fraction_at e p

-- the leading coefficient is 1
abbrev pub LeadsWithOne : List (List ℕ × Frac) → Type 0
LeadsWithOne [] = ⊥
LeadsWithOne (t ∷ p) = (t.1.num ≡ pos 1) × (t.1.den ≡ 1)
