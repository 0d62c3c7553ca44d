-- What may be wrong with a text, where, and which fault is told.
use Rattle.std.specs.Prelude.{ℕ, ◌≡◌, ◌+◌, ◌^◌, ◌<◌, ◌⊎◌, Bool, true, false, ◌&&◌, nat_le, nat_lt, if◌then◌else◌, List, [], ◌∷◌, length, take, Option, Some, None, is_none}
use Rattle.std.specs.Str.Parse.{digits_value}
use Rattle.ratfun_text.specs.declared.names.Names.{Names}
use Rattle.ratfun_text.specs.declared.parse.ExprError.{ExprError}
use Rattle.ratfun_text.specs.declared.parse.ExprKind.{ExprKind}
use Rattle.ratfun_text.specs.declared.parse.ExprKind.TheVariants.{Unexpected, WideNumber, UnknownName, TooDeep, NoMemory}
use Rattle.ratfun_text.specs.declared.tokens.Sign.TheVariants.{Plus, Minus, Times, Over, Caret, Open, Close}
use Rattle.ratfun_text.specs.Names.{argument_of}
use Rattle.ratfun_text.specs.Tokens.{Token, placed, kinds}
use Rattle.ratfun_text.specs.Grammar.{IsExpression, IsFront}

-- whether an exponent is wanted after these tokens: the last of them is `^`
abbrev pub wants_exponent : List Token → Bool
wants_exponent (Token.Mark Caret ∷ before) = true
wants_exponent _ = false

-- whether a factor is wanted after these tokens: there are none, or the last of them is `+`, `-`, `*`, `/` or `(`
abbrev pub wants_factor : List Token → Bool
wants_factor [] = true
wants_factor (Token.Mark Plus ∷ before) = true
wants_factor (Token.Mark Minus ∷ before) = true
wants_factor (Token.Mark Times ∷ before) = true
wants_factor (Token.Mark Over ∷ before) = true
wants_factor (Token.Mark Open ∷ before) = true
wants_factor _ = false

-- what may be open at a place of an expression
pub data Opened : Type 0 where
  Parenthesis : Opened
  Negation : Opened

-- without the signs that were opened last, as after the factor that they stand in front of
abbrev pub signs_ended : List Opened → List Opened
signs_ended [] = []
signs_ended (Parenthesis ∷ outer) = Parenthesis ∷ outer
signs_ended (Negation ∷ outer) = signs_ended outer

-- without the parenthesis that was opened last, nor what was opened in it
abbrev pub parenthesis_ended : List Opened → List Opened
parenthesis_ended [] = []
parenthesis_ended (Parenthesis ∷ outer) = outer
parenthesis_ended (Negation ∷ outer) = parenthesis_ended outer

-- the parentheses and the signs in front of a factor that are open after these tokens, the last opened first
abbrev pub opened : List Token → List Opened
opened [] = []
opened (Token.Mark Open ∷ before) = Parenthesis ∷ opened before
opened (Token.Mark Close ∷ before) = parenthesis_ended (opened before)
opened (Token.Mark Minus ∷ before) = if wants_factor before then Negation ∷ opened before else signs_ended (opened before)
opened (Token.Mark Plus ∷ before) = signs_ended (opened before)
opened (Token.Mark Times ∷ before) = signs_ended (opened before)
opened (Token.Mark Over ∷ before) = signs_ended (opened before)
opened (_ ∷ before) = opened before

abbrev pub when : Bool → ExprKind → Option ExprKind
when holds kind = if holds then Some kind else None

-- a number is to be below 2^128, and an exponent below 65536
abbrev pub number_limit : List Token → ℕ
number_limit before = if wants_exponent before then 65536 else 2 ^ 128

-- whether more than 64 of them are open
abbrev pub is_too_deep : List Opened → Bool
is_too_deep open_ones = nat_lt 64 (length open_ones)

-- what is wrong with a token that stands after these, where it may stand
abbrev pub token_fault : Names → Token → List Token → Option ExprKind
token_fault names (Token.Number digits) before = when (nat_le (number_limit before) (digits_value 10 digits)) WideNumber
token_fault names (Token.Name bytes) before = when (is_none (argument_of names bytes)) UnknownName
token_fault names (Token.Mark Open) before = when (is_too_deep (opened (Token.Mark Open ∷ before))) TooDeep
token_fault names (Token.Mark Minus) before = when (wants_factor before && is_too_deep (opened (Token.Mark Minus ∷ before))) TooDeep
token_fault names _ before = None

-- the token at this place has this fault
abbrev pub HasFault : Names → ℕ → ExprKind → List (ℕ × Token) → Type 0
HasFault names place kind [] = ⊥
HasFault names place kind (t ∷ before) = ((t.0 ≡ place) × (token_fault names t.1 (kinds before) ≡ Some kind)) ⊎ HasFault names place kind before

-- the text up to and with the byte at this place is no front of an expression, or the text ends here and is none
abbrev pub IsUnexpected : List ℕ → ℕ → Type 0
IsUnexpected text place = ((place < length text) × (IsFront (take (place + 1) text) → ⊥)) ⊎ ((place ≡ length text) × (IsExpression text → ⊥))

-- the fault of this kind is at this place
abbrev pub Applies : Names → List ℕ → ℕ → ExprKind → Type 0
Applies names text place Unexpected = IsUnexpected text place
Applies names text place WideNumber = HasFault names place WideNumber (placed text)
Applies names text place UnknownName = HasFault names place UnknownName (placed text)
Applies names text place TooDeep = HasFault names place TooDeep (placed text)
Applies names text place NoMemory = ⊥

-- the order in which faults at one place are told
abbrev pub rank : ExprKind → ℕ
rank Unexpected = 0
rank WideNumber = 1
rank UnknownName = 2
rank TooDeep = 3
rank NoMemory = 4

-- nothing is wrong with the text
abbrev pub IsFaultless : Names → List ℕ → Type 0
IsFaultless names text = (place : ℕ) (kind : ExprKind) → Applies names text place kind → ⊥

-- the fault is there, none is at a lesser place, and no other at its place is told before it
pub record IsFirst (names : Names) (text : List ℕ) (place : ℕ) (kind : ExprKind) : Type 0 where
  pub applies : Applies names text place kind
  pub least : (p : ℕ) (k : ExprKind) → p < place → Applies names text p k → ⊥
  pub first : (k : ExprKind) → rank k < rank kind → Applies names text place k → ⊥

-- the error with this kind at this place, which is 0 for want of memory
abbrev pub error_at : ℕ → ExprKind → ExprError
error_at place Unexpected = record { place = place; kind = Unexpected }
error_at place WideNumber = record { place = place; kind = WideNumber }
error_at place UnknownName = record { place = place; kind = UnknownName }
error_at place TooDeep = record { place = place; kind = TooDeep }
error_at place NoMemory = record { place = 0; kind = NoMemory }
