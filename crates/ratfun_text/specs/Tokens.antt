-- The tokens of a text, the last one first, each with the place of its first byte.
use Rattle.std.specs.Prelude.{ℕ, ◌+◌, ◌==◌, Bool, false, ◌&&◌, if◌then◌else◌, List, [], ◌∷◌, ◌++◌, map, Option, Some, None}
use Rattle.std.specs.Char.{is_ascii_alphabetic, is_ascii_digit}
use Rattle.std.specs.List.{list_all}
use Rattle.std.specs.Str.{byte}
use Rattle.ratfun_text.specs.Bytes.{is_blank, is_name_byte}
use Rattle.ratfun_text.specs.declared.tokens.Sign.{Sign}
use Rattle.ratfun_text.specs.declared.tokens.Sign.TheVariants.{Plus, Minus, Times, Over, Caret, Open, Close}

-- a number by its digits, a name by its bytes, a sign, or a byte that is no part of a token
pub data Token : Type 0 where
  Number : (digits : List ℕ) → Token
  Name : (bytes : List ℕ) → Token
  Mark : (sign : Sign) → Token
  Other : (byte : ℕ) → Token

-- the sign that a byte is
abbrev pub sign_of : ℕ → Option Sign
sign_of b =
    if b == byte "+" then Some Plus else
    if b == byte "-" then Some Minus else
    if b == byte "*" then Some Times else
    if b == byte "/" then Some Over else
    if b == byte "^" then Some Caret else
    if b == byte "(" then Some Open else
    if b == byte ")" then Some Close else None

abbrev pub mark_or_other : ℕ → Option Sign → Token
mark_or_other b None = Other b
mark_or_other b (Some sign) = Mark sign

-- the token that has these bytes, the first of which says its kind
abbrev pub token : ℕ → List ℕ → Token
token first rest = if is_ascii_digit first then Number (first ∷ rest) else if is_ascii_alphabetic first then Name (first ∷ rest) else mark_or_other first (sign_of first)

abbrev pub token_of : List ℕ → Token
token_of [] = Other 0
token_of (first ∷ rest) = token first rest

-- whether a token that begins with the first byte goes on with the other: a number with digits, a name with letters, digits and `_`
abbrev pub goes_on : ℕ → ℕ → Bool
goes_on first b = if is_ascii_digit first then is_ascii_digit b else is_ascii_alphabetic first && is_name_byte b

-- whether the bytes are those of one token
abbrev pub is_word : List ℕ → Bool
is_word [] = false
is_word (first ∷ rest) = list_all (goes_on first) rest

-- what has been read: the tokens, and the last of them apart where the next byte may go on with it
pub data Seen : Type 0 where
  Ended : (tokens : List (ℕ × Token)) → Seen
  Within : (before : List (ℕ × Token)) (place first : ℕ) (rest : List ℕ) → Seen

abbrev pub tokens_of : Seen → List (ℕ × Token)
tokens_of (Ended tokens) = tokens
tokens_of (Within before place first rest) = (place, token first rest) ∷ before

-- whether the byte goes on with the last token
abbrev pub joins : Seen → ℕ → Bool
joins (Ended tokens) b = false
joins (Within before place first rest) b = goes_on first b

abbrev pub longer : Seen → ℕ → Seen
longer (Ended tokens) b = Ended tokens
longer (Within before place first rest) b = Within before place first (rest ++ b ∷ [])

-- a blank ends a token, and another byte begins one
abbrev pub begun : ℕ → List (ℕ × Token) → ℕ → Seen
begun place tokens b = if is_blank b then Ended tokens else Within tokens place b []

abbrev pub read_byte : ℕ → Seen → ℕ → Seen
read_byte place seen b = if joins seen b then longer seen b else begun place (tokens_of seen) b

abbrev pub read_from : ℕ → Seen → List ℕ → Seen
read_from place seen [] = seen
read_from place seen (b ∷ rest) = read_from (place + 1) (read_byte place seen b) rest

-- what the text gives, read from its front
abbrev pub seen_in : List ℕ → Seen
seen_in text = read_from 0 (Ended []) text

-- the tokens of a text with their places, the last one first
abbrev pub placed : List ℕ → List (ℕ × Token)
placed text = tokens_of (seen_in text)

abbrev pub kinds : List (ℕ × Token) → List Token
kinds = map (λ t. t.1)
