-- One of the two polynomials of a quotient, while it is lifted.
use Rattle.std.specs.Prelude.{◌≡◌, ℕ, List, [], ◌∷◌, Some, ◌⊎◌, if◌then◌else◌}
use Rattle.std.specs.declared.cmp.Ordering.TheVariants.{Less}
use Rattle.prime_field.specs.Modulus.{value_of}
use Rattle.prime_field.specs.declared.Modulus.{Modulus}
use Rattle.prime_field.specs.declared.Modulus.TheVariants.{First, Second}
use Rattle.poly_maps.specs.Mono.{mono_cmp, is_same}
use Rattle.poly_maps.specs.Polynomial.{coefficient, leading}
use Rattle.poly_maps.specs.Fraction.{IsRational}
use Rattle.poly_maps.specs.Reduced.{residues, HaveUnits}
use Rattle.poly_maps.specs.declared.fraction.Frac.{Frac}
use Rattle.poly_maps.specs.declared.pair.Pair.{Pair}
use Rattle.rational_lift.specs.Joined.{IsJoint}
use Rattle.rational_lift.specs.Lifting.{AreInside, Recovers, IsUnlike, IsNoRational}
use Rattle.rational_lift.specs.declared.coeff.Coeff.{Coeff}
use Rattle.rational_lift.specs.declared.coeff.Part.{Part}
use Rattle.rational_lift.specs.declared.error.LiftError.{LiftError}
use Rattle.rational_lift.specs.declared.error.LiftError.TheVariants.{Unlike, NoRational, NoMemory}

-- the first at the first modulus, and the second at the second
abbrev pub by_modulus : {A : Type 0} → A → A → Modulus → A
by_modulus first second First = first
by_modulus first second Second = second

-- the coefficients at a monomial of two polynomials
abbrev pub at_both : List (List ℕ × ℕ) → List (List ℕ × ℕ) → List ℕ → Modulus → ℕ
at_both first second e m = coefficient e (by_modulus first second m)

-- a polynomial within the bounds that leaves the two given
pub record IsPartLifted (c : Coeff) (first second : List (List ℕ × ℕ)) (p : List (List ℕ × Frac)) : Type 0 where
  pub rational : IsRational p
  pub inside : AreInside c p
  pub units : (m : Modulus) → HaveUnits (value_of m) p
  pub residues : (m : Modulus) → residues (value_of m) p ≡ by_modulus first second m

-- the first monomial, descending, whose coefficients no fraction within the bounds leaves
pub record IsPartRefused (c : Coeff) (first second : List (List ℕ × ℕ)) (e : List ℕ) (joint : ℕ) : Type 0 where
  pub joins : IsJoint (at_both first second e) joint
  pub none : Recovers c (at_both first second e) → ⊥
  pub earlier : (f : List ℕ) → mono_cmp e f ≡ Less → Recovers c (at_both first second f)

-- what a fault of one polynomial tells; nothing where memory ran out
abbrev pub TellsPart : Coeff → Part → List (List ℕ × ℕ) → List (List ℕ × ℕ) → LiftError → Type 0
TellsPart c part first second (Unlike d e) = ⊥
TellsPart c part first second (NoRational q e joint) = (q ≡ part) × IsPartRefused c first second e joint
TellsPart c part first second NoMemory = Unit {0}

-- what a fault of two pairs tells; nothing where memory ran out
abbrev pub TellsFault : Coeff → (Modulus → Pair) → LiftError → Type 0
TellsFault c pairs (Unlike d e) = IsUnlike pairs d e
TellsFault c pairs (NoRational part e joint) = IsNoRational c pairs part e joint
TellsFault c pairs NoMemory = Unit {0}

-- the greatest monomial of the polynomials, both descending
abbrev pub AtMost : List ℕ → List (List ℕ × ℕ) → Type 0
AtMost e [] = Unit {0}
AtMost e (t ∷ p) = (t.0 ≡ e) ⊎ (mono_cmp t.0 e ≡ Less)

pub record IsTop (left right : List (List ℕ × ℕ)) (e : List ℕ) : Type 0 where
  pub some : (leading left ≡ Some e) ⊎ (leading right ≡ Some e)
  pub left_low : AtMost e left
  pub right_low : AtMost e right

-- the terms without the first one, if it has the monomial
abbrev pub behind : List ℕ → List (List ℕ × ℕ) → List (List ℕ × ℕ)
behind e [] = []
behind e (t ∷ p) = if is_same t.0 e then p else t ∷ p

-- the leading coefficient is 1
abbrev pub IsMonic : List (List ℕ × ℕ) → Type 0
IsMonic [] = ⊥
IsMonic (t ∷ p) = t.1 ≡ 1
