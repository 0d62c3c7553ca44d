-- What a text is taken for, whether or not it was printed: for each part what stands where that part is looked for.
use Rattle.std.specs.Prelude.{◌≢◌, ◌++◌, unsigned_abs, ℕ, suc, zero, ◌+◌, ◌^◌, ◌==◌, Bool, true, false, if◌then◌else◌, List, [], ◌∷◌, nat_le, nat_lt, slice_set, ℤ, pos, neg_ℤ, unwrap_or, bytes_eq}
use Rattle.std.specs.Char.{is_ascii_digit}
use Rattle.std.specs.Int.{is_negative}
use Rattle.std.specs.Str.{byte}
use Rattle.poly_maps.specs.Mono.{HasEight}
use Rattle.poly_maps.specs.declared.fraction.Frac.{Frac}
use Rattle.ratfun_text.specs.Bytes.{number_below}
use Rattle.ratfun_text.specs.Printed.{IsIn, IsSized, later_text, term_text}

-- the text before the first separator, all of it where there is none
abbrev pub before : ℕ → List ℕ → List ℕ
before separator [] = []
before separator (b ∷ text) = if b == separator then [] else b ∷ before separator text

-- the text behind the first separator, nothing where there is none
abbrev pub behind : ℕ → List ℕ → List ℕ
behind separator [] = []
behind separator (b ∷ text) = if b == separator then text else behind separator text

-- a number below the limit, 0 for any other text
abbrev pub number_in : ℕ → List ℕ → ℕ
number_in limit text = unwrap_or (number_below limit text) 0

-- the number behind a separator, which is 1 where nothing stands there
abbrev pub number_behind : ℕ → List ℕ → ℕ
number_behind limit [] = 1
number_behind limit (b ∷ text) = number_in limit (b ∷ text)

abbrev pub begins_with_digit : List ℕ → Bool
begins_with_digit [] = false
begins_with_digit (b ∷ text) = is_ascii_digit b

-- the coefficient of a term, without its sign: its numerator
abbrev pub numerator_in : List ℕ → ℕ
numerator_in term = if begins_with_digit term then number_in (2 ^ 128) (before (byte "/") (before (byte "*") term)) else 1

-- and its denominator
abbrev pub denominator_in : List ℕ → ℕ
denominator_in term = if begins_with_digit term then number_behind (2 ^ 128) (behind (byte "/") (before (byte "*") term)) else 1

-- the powers of a term
abbrev pub powers_in : List ℕ → List ℕ
powers_in term = if begins_with_digit term then behind (byte "*") term else term

-- whether the first power is one of this variable
abbrev pub begins_with : List ℕ → List ℕ → Bool
begins_with name powers = bytes_eq (before (byte "^") (before (byte "*") powers)) name

-- the exponent of the variable in the first power
abbrev pub exponent_in : List ℕ → List ℕ → ℕ
exponent_in name powers = if begins_with name powers then number_behind (2 ^ 16) (behind (byte "^") (before (byte "*") powers)) else 0

-- the powers that may be of the variables after this one
abbrev pub powers_after : List ℕ → List ℕ → List ℕ
powers_after name powers = if begins_with name powers then behind (byte "*") powers else powers

-- the exponents with those of these variables put in from a place on
abbrev pub with_powers : ℕ → List (List ℕ) → List ℕ → List ℕ → List ℕ
with_powers place [] powers e = e
with_powers place (name ∷ names) powers e = with_powers (place + 1) names (powers_after name powers) (slice_set e place (exponent_in name powers))

-- the number with this sign, 0 where it doesn't fit 128 bits
abbrev pub signed : Bool → ℕ → ℤ
signed true n = if nat_le n (2 ^ 127) then neg_ℤ (pos n) else pos 0
signed false n = if nat_lt n (2 ^ 127) then pos n else pos 0

-- as many zeros
abbrev pub zeros : ℕ → List ℕ
zeros zero = []
zeros (suc n) = 0 ∷ zeros n

-- a term behind its sign
abbrev pub term_in : List (List ℕ) → Bool → List ℕ → List ℕ × Frac
term_in names minus term = (with_powers 0 names (powers_in term) (zeros 8), record { num = signed minus (numerator_in term); den = denominator_in term })

abbrev pub begins_with_byte : ℕ → List ℕ → Bool
begins_with_byte b [] = false
begins_with_byte b (first ∷ text) = first == b

-- the terms after the first of a polynomial, without the blank in front of them
abbrev pub later_behind : List (List ℕ) → List (List ℕ × Frac) → List ℕ
later_behind names [] = []
later_behind names (t ∷ p) = (if is_negative t.1.num then byte "-" else byte "+") ∷ byte " " ∷ (term_text names t ++ later_text names p)

-- a term that isn't zero, in these names and with numbers as small as they are kept
pub record IsTermIn (names : List (List ℕ)) (t : List ℕ × Frac) : Type 0 where
  pub some : unsigned_abs t.1.num ≢ 0
  pub sized : IsSized t.0 t.1
  pub inside : IsIn names t.0
  pub eight : HasEight t.0

abbrev pub AreTermsIn : List (List ℕ) → List (List ℕ × Frac) → Type 0
AreTermsIn names [] = Unit {0}
AreTermsIn names (t ∷ p) = IsTermIn names t × AreTermsIn names p

-- the text behind a sign in front
abbrev pub unsigned : List ℕ → List ℕ
unsigned [] = []
unsigned (first ∷ text) = if first == byte "-" then text else first ∷ text

-- the numerator of a quotient, which stands in parentheses or alone
abbrev pub numerator_text : List ℕ → List ℕ
numerator_text text = if begins_with_byte (byte "(") text then before (byte ")") (behind (byte "(") text) else text

-- and its denominator, which is 1 where the numerator stands alone
abbrev pub denominator_text : List ℕ → List ℕ
denominator_text text = if begins_with_byte (byte "(") text then before (byte ")") (behind (byte "(") (behind (byte ")") text)) else byte "1" ∷ []
