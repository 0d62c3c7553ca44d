-- What the words after the program's name ask for, and where they go wrong.
use Rattle.std.specs.Prelude.{◌≡◌, ℕ, ◌+◌, ◌<◌, ◌≤◌, ◌==◌, ◌||◌, nat_le, count_by, filter, option_map, option_to_list, ⊤, not, Bool, false, List, [], ◌∷◌, ◌++◌, length, take, Option, Some, None, codes, bytes_eq, if◌then◌else◌, map, string_bytes}
use Rattle.std.specs.List.{list_any}
use Rattle.std.specs.Option.{option_and_then}
use Rattle.std.specs.declared.string.String.{String}
use Rattle.std.specs.declared.alloc.Global.{Global}
use Rattle.ratfun_text.specs.Bytes.{number_below}
use Rattle.ratfun_text.specs.Names.{begins_with_zero}
use Rattle.flow_program.specs.declared.words.Command.{Command}
use Rattle.flow_program.specs.declared.words.Command.TheVariants as command
use Rattle.flow_program.specs.declared.verb.Verb.{Verb}
use Rattle.flow_program.specs.declared.verb.Verb.TheVariants as verb

-- the bytes of each word
abbrev pub texts : List (String Global) → List (List ℕ)
texts words = map string_bytes words

-- what the program can be asked to do, with names as their bytes: to sample a file with so many workers, with true at the
-- second modulus; to learn one; to reconstruct the functions that one computes, with true with a report; to do so with the
-- demo of this size
pub data Request : Type 0 where
  Sample : (file : List ℕ) (workers : ℕ) (second : Bool) → Request
  Learn : (file : List ℕ) → Request
  Reconstruct : (file : List ℕ) (workers : ℕ) (report : Bool) → Request
  Demo : (n workers : ℕ) → Request

-- what a command asks for
abbrev pub request : Command → Request
request (command.Sample file workers second) = Sample (string_bytes file) workers second
request (command.Learn file) = Learn (string_bytes file)
request (command.Reconstruct file workers report) = Reconstruct (string_bytes file) workers report
request (command.Demo n workers) = Demo n workers

-- the file that a request names, where it names one
abbrev pub file_of : Request → Option (List ℕ)
file_of (Sample file _ second) = Some file
file_of (Learn file) = Some file
file_of (Reconstruct file _ report) = Some file
file_of (Demo n _) = None

-- the names whose bytes a request reads
abbrev pub names_read : Request → List (List ℕ)
names_read wish = option_to_list (file_of wish)

-- a number from 1 to 16
abbrev pub IsCount : ℕ → Type 0
IsCount n = (1 ≤ n) × (n ≤ 16)

-- the numbers of a request are such
abbrev pub HasCounts : Request → Type 0
HasCounts (Sample file workers second) = IsCount workers
HasCounts (Learn file) = ⊤
HasCounts (Reconstruct file workers report) = IsCount workers
HasCounts (Demo n workers) = IsCount n × IsCount workers

-- which words ask for what
abbrev pub Grammar : Type 0
Grammar = List (List ℕ) → Option Request

-- the word isn't empty and doesn't begin with a dash
abbrev pub begins_with_no_dash : List ℕ → Bool
begins_with_no_dash [] = false
begins_with_no_dash (byte ∷ rest) = not (byte == 45)

-- a word that names a file: a dash alone, or a word that doesn't begin with one
abbrev pub is_file : List ℕ → Bool
is_file word = bytes_eq word (codes "-") || begins_with_no_dash word

-- the option behind which the number of workers stands
abbrev pub is_workers : List ℕ → Bool
is_workers word = bytes_eq word (codes "--workers")

-- the number from 1 to 16 that a word writes in decimal digits, with no zero in front
abbrev pub count_of : List ℕ → Option ℕ
count_of word = if begins_with_zero word then None else number_below 17 word

-- words, and the number of workers that was given among them
pub record Staffed : Type 0 where
  pub workers : ℕ
  pub words : List (List ℕ)

-- with one more word in front
abbrev pub behind : List ℕ → Staffed → Staffed
behind word staff = record { workers = staff.workers; words = word ∷ staff.words }

-- the words behind `--workers` without the number with which they begin
abbrev pub counted : List (List ℕ) → Option Staffed
counted [] = None
counted (number ∷ rest) = option_map (λ workers. record { workers = workers; words = rest }) (count_of number)

-- the words without the first `--workers W`; one worker is given where there is none
abbrev pub staffed : List (List ℕ) → Option Staffed
staffed [] = Some (record { workers = 1; words = [] })
staffed (word ∷ rest) = if is_workers word then counted rest else option_map (behind word) (staffed rest)

-- the option of one word that a command has, where it has one
abbrev pub is_flag : Verb → List ℕ → Bool
is_flag verb.Sample word = bytes_eq word (codes "--second")
is_flag verb.Reconstruct word = bytes_eq word (codes "--report")
is_flag verb.Demo word = false

-- what is asked of a file where the word names one
abbrev pub of_file : (List ℕ → Request) → List ℕ → Option Request
of_file wish word = if is_file word then Some (wish word) else None

-- what a command asks for, of this word, with so many workers, with its option or without
abbrev pub wish_of : Verb → ℕ → Bool → List ℕ → Option Request
wish_of verb.Sample workers flag word = of_file (λ file. Sample file workers flag) word
wish_of verb.Reconstruct workers flag word = of_file (λ file. Reconstruct file workers flag) word
wish_of verb.Demo workers flag word = option_map (λ n. Demo n workers) (count_of word)

-- what is asked of the one word, where there is one and nothing else
abbrev pub of_one : (List ℕ → Option Request) → List (List ℕ) → Option Request
of_one wish [] = None
of_one wish (word ∷ []) = wish word
of_one wish (word ∷ more ∷ rest) = None

-- what words without `--workers W` ask for: the command's option at most once, and one word beside it, in any order
abbrev pub asked_of : Verb → ℕ → List (List ℕ) → Option Request
asked_of verb workers words = if nat_le (count_by (is_flag verb) words) 1 then of_one (wish_of verb workers (list_any (is_flag verb) words)) (filter (λ word. not (is_flag verb word)) words) else None

-- what the words behind a command that takes workers ask for
abbrev pub asked_verb : Verb → Grammar
asked_verb verb rest = option_and_then (λ staff. asked_of verb staff.workers staff.words) (staffed rest)

-- what the words behind `learn` ask for: a file, and nothing else
abbrev pub asked_learn : Grammar
asked_learn rest = of_one (of_file Learn) rest

-- what the words behind this first word ask for
abbrev pub asked_behind : List ℕ → Grammar
asked_behind name rest =
    if bytes_eq name (codes "sample") then asked_verb verb.Sample rest else
    if bytes_eq name (codes "learn") then asked_learn rest else
    if bytes_eq name (codes "reconstruct") then asked_verb verb.Reconstruct rest else
    if bytes_eq name (codes "demo") then asked_verb verb.Demo rest else None

-- what the words ask for, where the grammar admits them
abbrev pub asked : Grammar
asked [] = None
asked (name ∷ rest) = asked_behind name rest

-- some admitted words begin with these
abbrev pub IsFront : Grammar → List (List ℕ) → Type 0
IsFront grammar words = (rest : List (List ℕ)) × (wish : Request) × (grammar (words ++ rest) ≡ Some wish)

-- The words are admitted for nothing, and go wrong at the k-th, counted from 1: the first k - 1 words
-- begin some admitted words, and the first k don't, or there is no k-th word.
pub record StopsAt (grammar : Grammar) (words : List (List ℕ)) (k : ℕ) : Type 0 where
  pub refused : grammar words ≡ None
  pub fronts : (j : ℕ) → j < k → IsFront grammar (take j words)
  pub breaks : k ≤ length words → IsFront grammar (take k words) → ⊥
  pub within : k ≤ length words + 1

-- the words after the program's name go wrong at the k-th
abbrev pub IsBadAt : List (List ℕ) → ℕ → Type 0
IsBadAt words k = StopsAt asked words k
