-- The names that an expression may use, and the numbers of their arguments.
use Rattle.std.specs.Prelude.{ℕ, ◌+◌, ◌==◌, Bool, false, not, ◌&&◌, if◌then◌else◌, List, [], ◌∷◌, length, position, Option, None, option_map, bytes_eq}
use Rattle.std.specs.Str.{byte}
use Rattle.ratfun_text.specs.Bytes.{number_below}
use Rattle.ratfun_text.specs.declared.names.Names.{Names}
use Rattle.ratfun_text.specs.declared.names.Names.TheVariants.{Listed, Numbered}

-- the names that are listed, in order, each as its bytes
abbrev pub names_of : Names → List (List ℕ)
names_of (Listed names) = names
names_of Numbered = []

abbrev pub begins_with_zero : List ℕ → Bool
begins_with_zero [] = false
begins_with_zero (first ∷ rest) = first == byte "0"

-- the number behind a `z`: from 1 to 262144, and written with no zero in front
abbrev pub number_behind_z : List ℕ → Option ℕ
number_behind_z [] = None
number_behind_z (first ∷ digits) = if first == byte "z" && not (begins_with_zero digits) then number_below 262145 digits else None

-- the argument that a name stands for: its place in the list, counted from 1, or the number behind its `z`
abbrev pub argument_of : Names → List ℕ → Option ℕ
argument_of (Listed names) name = option_map (λ place. place + 1) (position (λ other. bytes_eq other name) names)
argument_of Numbered name = number_behind_z name

-- the greatest number of an argument
abbrev pub last_argument : Names → ℕ
last_argument (Listed names) = length names
last_argument Numbered = 262144
