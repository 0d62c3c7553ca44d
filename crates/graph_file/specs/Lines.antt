-- How a file's bytes are cut into lines, and a line into words.
use Rattle.std.specs.Prelude.{ℕ, zero, suc, Bool, true, not, ◌&&◌, ◌||◌, ◌==◌, nat_lt, List, [], ◌∷◌, drop, length, filter}
use Rattle.std.specs.List.{slice_split, list_all, position_or_len}
use Rattle.ratfun_text.specs.Bytes.{is_blank, trim, trim_start}

-- the bytes cut at each line feed; what stands after the last one is a line too
abbrev pub lines : List ℕ → List (List ℕ)
lines bytes = slice_split (λ byte. byte == 10) bytes

-- without its blanks the line is empty or begins with `#`
abbrev pub is_idle : List ℕ → Bool
is_idle [] = true
is_idle (first ∷ _) = first == 35

-- the line has blanks alone, or its first byte that is no blank is `#`
abbrev pub is_passed_over : List ℕ → Bool
is_passed_over line = is_idle (trim line)

-- the lines of these that aren't passed over
abbrev pub not_passed_over : List (List ℕ) → List (List ℕ)
not_passed_over all = filter (λ line. not (is_passed_over line)) all

-- the lines that count: line 1, and each later one that isn't passed over
abbrev pub kept : List (List ℕ) → List (List ℕ)
kept [] = []
kept (first ∷ later) = first ∷ not_passed_over later

-- a byte that may stand in a line that counts: a blank, or one from 0x21 to 0x7E
abbrev pub is_allowed : ℕ → Bool
is_allowed byte = is_blank byte || (nat_lt 32 byte && nat_lt byte 127)

-- every byte of the line may stand in a line that counts
abbrev pub is_plain : List ℕ → Bool
is_plain line = list_all is_allowed line

-- there is something between two blanks
abbrev pub is_word : List ℕ → Bool
is_word piece = not (length piece == 0)

-- the longest runs of bytes that aren't blanks
abbrev pub words : List ℕ → List (List ℕ)
words line = filter is_word (slice_split is_blank line)

-- the line from its first blank on
abbrev pub from_blank : List ℕ → List ℕ
from_blank line = drop (position_or_len is_blank line) line

-- what follows the first word of the line
abbrev pub after_word : List ℕ → List ℕ
after_word line = from_blank (trim_start line)

-- what follows the first n words of the line
abbrev pub after_words : ℕ → List ℕ → List ℕ
after_words zero line = line
after_words (suc n) line = after_word (after_words n line)
