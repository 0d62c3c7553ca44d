-- Bytes of a text: blanks, names and decimal numbers.
use Rattle.std.specs.Prelude.{ℕ, ◌+◌, ◌-◌, ◌*◌, ◌==◌, Bool, false, not, ◌&&◌, ◌||◌, nat_lt, if◌then◌else◌, List, [], ◌∷◌, length, take, drop, Option, Some, None}
use Rattle.std.specs.Option.{option_and_then}
use Rattle.std.specs.Char.{is_ascii_alphabetic, is_ascii_alphanumeric, is_ascii_digit}
use Rattle.std.specs.List.{list_all, position_or_len, suffix_len}
use Rattle.std.specs.Str.Parse.{digits_value}

-- a space, a tab or a carriage return
abbrev pub is_blank : ℕ → Bool
is_blank byte = byte == 32 || byte == 9 || byte == 13

-- the text from its first byte on that is no blank
abbrev pub trim_start : List ℕ → List ℕ
trim_start text = drop (position_or_len (λ byte. not (is_blank byte)) text) text

-- the text without the blanks at its end
abbrev pub trim_end : List ℕ → List ℕ
trim_end text = take (length text - suffix_len is_blank text) text

-- the text without the blanks at its ends
abbrev pub trim : List ℕ → List ℕ
trim text = trim_end (trim_start text)

-- a letter, a digit or an underscore
abbrev pub is_name_byte : ℕ → Bool
is_name_byte byte = is_ascii_alphanumeric byte || byte == 95

-- a letter, and then letters, digits and underscores
abbrev pub is_name : List ℕ → Bool
is_name [] = false
is_name (first ∷ rest) = is_ascii_alphabetic first && list_all is_name_byte rest

-- one or more decimal digits, and nothing else
abbrev pub is_digits : List ℕ → Bool
is_digits [] = false
is_digits (first ∷ rest) = list_all is_ascii_digit (first ∷ rest)

-- the number that a text of decimal digits writes, however many they are, and nothing for another text
abbrev pub number_of : List ℕ → Option ℕ
number_of text = if is_digits text then Some (digits_value 10 text) else None

-- the number, where it is below the limit
abbrev pub narrow : ℕ → ℕ → Option ℕ
narrow limit n = if nat_lt n limit then Some n else None

-- the number that the text writes, where it is below the limit
abbrev pub number_below : ℕ → List ℕ → Option ℕ
number_below limit text = option_and_then (narrow limit) (number_of text)

-- the number with one more digit at its end, where the byte is a digit and the number stays below the limit
abbrev pub with_digit : ℕ → ℕ → ℕ → Option ℕ
with_digit limit n byte = if is_ascii_digit byte then narrow limit (n * 10 + (byte - 48)) else None
