-- The text that a quotient of polynomials over the rational numbers is printed as, in given names of its variables.
use Rattle.std.specs.Prelude.{◌≡◌, ℕ, ◌^◌, ◌<◌, ◌≤◌, ◌==◌, Bool, false, ◌&&◌, if◌then◌else◌, List, [], ◌∷◌, ◌++◌, length, Some, IsTrue, slice_get, slice_index, pos, unsigned_abs, FitsSigned, decimal}
use Rattle.std.specs.Int.{is_negative, w128}
use Rattle.std.specs.List.{join_with_byte}
use Rattle.std.specs.Ordering.{int_eq}
use Rattle.std.specs.Str.{byte}
use Rattle.poly_maps.specs.Mono.{degree}
use Rattle.poly_maps.specs.Polynomial.{Supported}
use Rattle.poly_maps.specs.Quotient.{RationalPair}
use Rattle.poly_maps.specs.declared.fraction.Frac.{Frac}
use Rattle.ratfun_text.specs.Bytes.{is_name}

-- 1 to 8 distinct names, each a letter with letters, digits and underscores behind it
pub record AreVariables (names : List (List ℕ)) : Type 0 where
  pub some : 1 ≤ length names
  pub few : length names ≤ 8
  pub named : (k : ℕ) (name : List ℕ) → slice_get names k ≡ Some name → IsTrue (is_name name)
  pub distinct : (i j : ℕ) (name : List ℕ) → slice_get names i ≡ Some name → slice_get names j ≡ Some name → i ≡ j

-- the exponents past the number of names are 0
abbrev pub IsIn : List (List ℕ) → List ℕ → Type 0
IsIn names e = (i : ℕ) → length names ≤ i → slice_index e i ≡ 0

-- each monomial of the quotient is in these names
pub record AreIn (names : List (List ℕ)) (q : RationalPair) : Type 0 where
  pub num : Supported (IsIn names) q.num
  pub den : Supported (IsIn names) q.den

-- exponents are below 2^16, a numerator fits 128 bits with its sign, and a denominator 128 bits
pub record IsSized (e : List ℕ) (f : Frac) : Type 0 where
  pub exponents : (i : ℕ) → slice_index e i < 2 ^ 16
  pub num : FitsSigned w128 f.num
  pub den : f.den < 2 ^ 128

abbrev pub AreSized : List (List ℕ × Frac) → Type 0
AreSized [] = Unit {0}
AreSized (t ∷ p) = IsSized t.0 t.1 × AreSized p

-- all numbers of the quotient are as small as a `Quotient` keeps them
pub record HasSizes (q : RationalPair) : Type 0 where
  pub num : AreSized q.num
  pub den : AreSized q.den

-- a variable with its exponent, which is printed where it is more than 1
abbrev pub power : List ℕ → ℕ → List ℕ
power name k = if k == 1 then name else name ++ byte "^" ∷ decimal k

-- the variables with positive exponents, in the order of the names
abbrev pub powers : List (List ℕ) → List ℕ → List (List ℕ)
powers [] e = []
powers (name ∷ names) [] = []
powers (name ∷ names) (k ∷ e) = if k == 0 then powers names e else power name k ∷ powers names e

-- the product of powers, which is 1 where there are none
abbrev pub product_text : List (List ℕ) → List ℕ
product_text [] = byte "1" ∷ []
product_text (factor ∷ factors) = join_with_byte (byte "*") (factor ∷ factors)

-- factors with `*` in front of each, but for the first of a product
abbrev pub chained : Bool → List (List ℕ) → List ℕ
chained first [] = []
chained first (factor ∷ factors) = (if first then factor else byte "*" ∷ factor) ++ chained false factors

-- a monomial that stands alone
abbrev pub mono_text : List (List ℕ) → List ℕ → List ℕ
mono_text names e = product_text (powers names e)

-- a fraction without its sign: `n`, or `n/d` where d isn't 1
abbrev pub magnitude : Frac → List ℕ
magnitude f = if f.den == 1 then decimal (unsigned_abs f.num) else decimal (unsigned_abs f.num) ++ byte "/" ∷ decimal f.den

-- 1 or -1
abbrev pub is_unit : Frac → Bool
is_unit f = unsigned_abs f.num == 1 && f.den == 1

-- the factors of a term: its coefficient without its sign, which isn't printed beside powers where it is 1, and the powers
abbrev pub factors : Frac → List (List ℕ) → List (List ℕ)
factors f [] = magnitude f ∷ []
factors f (first ∷ others) = if is_unit f then first ∷ others else magnitude f ∷ first ∷ others

-- a term without its sign
abbrev pub term_text : List (List ℕ) → List ℕ × Frac → List ℕ
term_text names t = join_with_byte (byte "*") (factors t.1 (powers names t.0))

-- the terms after the first, each behind its sign
abbrev pub later_text : List (List ℕ) → List (List ℕ × Frac) → List ℕ
later_text names [] = []
later_text names (t ∷ p) = byte " " ∷ (if is_negative t.1.num then byte "-" else byte "+") ∷ byte " " ∷ (term_text names t ++ later_text names p)

-- a polynomial: its terms in their order, the first with a sign only where it is negative
abbrev pub poly_text : List (List ℕ) → List (List ℕ × Frac) → List ℕ
poly_text names [] = byte "0" ∷ []
poly_text names (t ∷ p) = (if is_negative t.1.num then byte "-" ∷ [] else []) ++ (term_text names t ++ later_text names p)

-- the constant 1
abbrev pub is_one : List (List ℕ × Frac) → Bool
is_one [] = false
is_one (t ∷ []) = degree t.0 == 0 && (int_eq t.1.num (pos 1) && t.1.den == 1)
is_one (t ∷ u ∷ p) = false

-- a quotient: its numerator where the denominator is 1, and else both in parentheses
abbrev pub quotient_text : List (List ℕ) → RationalPair → List ℕ
quotient_text names q =
    if is_one q.den then poly_text names q.num else byte "(" ∷ (poly_text names q.num ++ byte ")" ∷ byte "/" ∷ byte "(" ∷ (poly_text names q.den ++ byte ")" ∷ []))
