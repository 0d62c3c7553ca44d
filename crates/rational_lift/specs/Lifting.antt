-- What two pairs of polynomials, one over the residues of each modulus, are lifted to.
use Rattle.std.specs.Prelude.{◌≡◌, ◌≢◌, ℕ, ◌≤◌, unsigned_abs, List, [], ◌∷◌, Some}
use Rattle.std.specs.declared.cmp.Ordering.TheVariants.{Less}
use Rattle.prime_field.specs.Modulus.{value_of}
use Rattle.prime_field.specs.Residue.{IsUnit}
use Rattle.prime_field.specs.declared.Modulus.{Modulus}
use Rattle.prime_field.specs.declared.Modulus.TheVariants.{First, Second}
use Rattle.poly_maps.specs.Mono.{mono_cmp}
use Rattle.poly_maps.specs.Polynomial.{coefficient, leading}
use Rattle.poly_maps.specs.Fraction.{IsLowest}
use Rattle.poly_maps.specs.Quotient.{RationalPair, IsQuotientMap}
use Rattle.poly_maps.specs.Reduced.{residue, residue_pair, HasUnits}
use Rattle.poly_maps.specs.declared.fraction.Frac.{Frac}
use Rattle.poly_maps.specs.declared.pair.Pair.{Pair}
use Rattle.rational_lift.specs.Joined.{IsJoint}
use Rattle.rational_lift.specs.declared.coeff.Coeff.{Coeff}
use Rattle.rational_lift.specs.declared.coeff.Part.{Part}
use Rattle.rational_lift.specs.declared.coeff.Part.TheVariants.{Numerator, Denominator}

-- the size of the numerator and the denominator are within the bounds on coefficients
pub record IsInside (c : Coeff) (f : Frac) : Type 0 where
  pub num : unsigned_abs f.num ≤ c.num
  pub den : f.den ≤ c.den

-- each coefficient is
abbrev pub AreInside : Coeff → List (List ℕ × Frac) → Type 0
AreInside c [] = Unit {0}
AreInside c (t ∷ p) = IsInside c t.1 × AreInside c p

pub record HasInside (c : Coeff) (F : RationalPair) : Type 0 where
  pub num : AreInside c F.num
  pub den : AreInside c F.den

-- the coefficient at the monomial e of one part of a pair
abbrev pub at_part : Part → List ℕ → Pair → ℕ
at_part Numerator e f = coefficient e f.num
at_part Denominator e f = coefficient e f.den

-- what comes of lifting: a quotient; two leading monomials of the denominators; or a monomial of one part with the
-- number that its two coefficients make
pub data Lift : Type 0 where
  Lifted : RationalPair → Lift
  Unlike : List ℕ → List ℕ → Lift
  NoRational : Part → List ℕ → ℕ → Lift

-- a quotient within the bounds that leaves the two pairs
pub record IsLifted (c : Coeff) (pairs : Modulus → Pair) (F : RationalPair) : Type 0 where
  pub map : IsQuotientMap F
  pub inside : HasInside c F
  pub units : (m : Modulus) → HasUnits (value_of m) F
  pub residues : (m : Modulus) → residue_pair (value_of m) F ≡ pairs m

-- the denominators have different leading monomials
pub record IsUnlike (pairs : Modulus → Pair) (first second : List ℕ) : Type 0 where
  pub first_lead : leading (pairs First).den ≡ Some first
  pub second_lead : leading (pairs Second).den ≡ Some second
  pub unlike : first ≢ second

-- a fraction within the bounds that leaves the residue given at each modulus
pub record Recovers (c : Coeff) (left : Modulus → ℕ) : Type 0 where
  pub fraction : Frac
  pub lowest : IsLowest fraction
  pub inside : IsInside c fraction
  pub units : (m : Modulus) → IsUnit (value_of m) fraction.den
  pub residues : (m : Modulus) → residue (value_of m) fraction ≡ left m

-- there is one that leaves both coefficients at the monomial
abbrev pub IsRecovered : Coeff → (Modulus → Pair) → Part → List ℕ → Type 0
IsRecovered c pairs part e = Recovers c (λ m. at_part part e (pairs m))

-- the order in which monomials are taken: the numerators', descending, and then the denominators'
abbrev pub Before : Part → List ℕ → Part → List ℕ → Type 0
Before Numerator f Numerator e = mono_cmp e f ≡ Less
Before Numerator f Denominator e = Unit {0}
Before Denominator f Numerator e = ⊥
Before Denominator f Denominator e = mono_cmp e f ≡ Less

-- the first monomial whose two coefficients no fraction within the bounds leaves, and the number that they make
pub record IsNoRational (c : Coeff) (pairs : Modulus → Pair) (part : Part) (e : List ℕ) (joint : ℕ) : Type 0 where
  pub alike : leading (pairs First).den ≡ leading (pairs Second).den
  pub joins : IsJoint (λ m. at_part part e (pairs m)) joint
  pub none : IsRecovered c pairs part e → ⊥
  pub first : (q : Part) (f : List ℕ) → Before q f part e → IsRecovered c pairs q f

-- the meaning of each
abbrev pub LiftsTo : Coeff → (Modulus → Pair) → Lift → Type 0
LiftsTo c pairs (Lifted F) = IsLifted c pairs F
LiftsTo c pairs (Unlike first second) = IsUnlike pairs first second
LiftsTo c pairs (NoRational part e joint) = IsNoRational c pairs part e joint
