-- The words read one after another, as the program reads them; proofs/WordsLaws says what this means.
use Rattle.std.specs.Prelude.{◌≡◌, ℕ, ◌+◌, ◌&&◌, not, Bool, true, false, Option, Some, None, is_none, is_some, option_map, Result, Ok, Err, List, [], ◌∷◌, codes, bytes_eq, if◌then◌else◌, string_bytes}
use Rattle.std.specs.declared.string.String.{String}
use Rattle.std.specs.declared.alloc.Global.{Global}
use Rattle.flow_program.specs.Words.{Request, Learn, count_of, is_file, is_flag, is_workers, request, wish_of}
use Rattle.flow_program.specs.declared.verb.Verb.{Verb}
use Rattle.flow_program.specs.declared.verb.Verb.TheVariants as verb
use Rattle.flow_program.specs.declared.verb.Stage.{Stage}
use Rattle.flow_program.specs.declared.verb.Stage.TheVariants as stage
use Rattle.flow_program.specs.declared.verb.Met.{Met}
use Rattle.flow_program.specs.declared.words.Command.{Command}
use Rattle.flow_program.specs.declared.words.WordsError.{WordsError}
use Rattle.flow_program.specs.declared.words.WordsError.TheVariants as error

-- what the words ask for, or the place of the first that doesn't fit
pub data Parsed : Type 0 where
  Asks : (wish : Request) → Parsed
  BadAt : (place : ℕ) → Parsed

-- what has been read of the number of workers: nothing yet, the option behind which the number is to come, or the number
pub data Workers : Type 0 where
  Unsaid : Workers
  Awaited : Workers
  Said : (number : ℕ) → Workers

-- what has been read of the words behind a command's name: the word that is no option, what of the number of workers, and
-- whether the command's option of one word stands there
pub record Given : Type 0 where
  pub word : Option (List ℕ)
  pub workers : Workers
  pub flag : Bool

abbrev pub nothing_given : Given
nothing_given = record { word = None; workers = Unsaid; flag = false }

-- a word of which the command may be asked
abbrev pub fits : Verb → List ℕ → Bool
fits verb.Sample word = is_file word
fits verb.Reconstruct word = is_file word
fits verb.Demo word = is_some (count_of word)

-- the number behind `--workers`
abbrev pub with_number : Given → List ℕ → Option Given
with_number given number = option_map (λ n. record given { workers = Said n }) (count_of number)

-- a word that is neither `--workers` nor the number behind it
abbrev pub with_other : Verb → Given → List ℕ → Option Given
with_other verb given word =
    if is_flag verb word then (if given.flag then None else Some (record given { flag = true }))
    else if fits verb word && is_none given.word then Some (record given { word = Some word })
    else None

-- what is given with one more word, where admitted words go on so
abbrev pub with_word : Verb → Workers → Given → List ℕ → Option Given
with_word verb Unsaid given word = if is_workers word then Some (record given { workers = Awaited }) else with_other verb given word
with_word verb Awaited given word = with_number given word
with_word verb (Said n) given word = if is_workers word then None else with_other verb given word

-- the number of workers, where it isn't still to come
abbrev pub workers_given : Workers → Option ℕ
workers_given Unsaid = Some 1
workers_given Awaited = None
workers_given (Said n) = Some n

-- a wish, or that the words stop at the place k
abbrev pub asks_at : ℕ → Option Request → Parsed
asks_at k None = BadAt k
asks_at k (Some wish) = Asks wish

-- what is asked for of this word with so many workers, where both are there
abbrev pub ended_with : Verb → ℕ → Bool → Option (List ℕ) → Option ℕ → Parsed
ended_with verb k flag (Some word) (Some workers) = asks_at k (wish_of verb workers flag word)
ended_with verb k flag (Some word) None = BadAt k
ended_with verb k flag None workers = BadAt k

-- what is asked for at the end of the words, of which the last has the place before k
abbrev pub ended : Verb → ℕ → Given → Parsed
ended verb k given = ended_with verb k given.flag given.word (workers_given given.workers)

-- the words behind a command's name from the k-th on, where this has been given
abbrev pub parsed_from : Verb → ℕ → Given → List (List ℕ) → Parsed
parsed_from verb k given [] = ended verb k given
parsed_from verb k given (word ∷ rest) = elim (with_word verb given.workers given word) [ None ↦ BadAt k | Some next ↦ parsed_from verb (k + 1) next rest ]

-- what is asked for where no words are left, the first of which would have the place k
abbrev pub alone : ℕ → Request → List (List ℕ) → Parsed
alone k wish [] = Asks wish
alone k wish (word ∷ rest) = BadAt k

-- the words behind `learn`
abbrev pub parsed_learn : List (List ℕ) → Parsed
parsed_learn [] = BadAt 2
parsed_learn (file ∷ rest) = if is_file file then alone 3 (Learn file) rest else BadAt 2

-- the words behind a command's name
abbrev pub parsed_behind : List ℕ → List (List ℕ) → Parsed
parsed_behind name rest =
    if bytes_eq name (codes "sample") then parsed_from verb.Sample 2 nothing_given rest else
    if bytes_eq name (codes "learn") then parsed_learn rest else
    if bytes_eq name (codes "reconstruct") then parsed_from verb.Reconstruct 2 nothing_given rest else
    if bytes_eq name (codes "demo") then parsed_from verb.Demo 2 nothing_given rest else BadAt 1

abbrev pub parsed : List (List ℕ) → Parsed
parsed [] = BadAt 1
parsed (word ∷ rest) = parsed_behind word rest

-- which words have been met where this has been read
abbrev pub stage_of : Workers → Stage
stage_of Unsaid = stage.Unsaid
stage_of Awaited = stage.Awaited
stage_of (Said n) = stage.Said

abbrev pub met_of : Given → Met
met_of given = record { word = is_some given.word; workers = stage_of given.workers; flag = given.flag }

-- one more word that is neither `--workers` nor the number behind it
abbrev pub met_with_other : Verb → Met → List ℕ → Option Met
met_with_other verb met word =
    if is_flag verb word then (if met.flag then None else Some (record met { flag = true }))
    else if fits verb word && not met.word then Some (record met { word = true })
    else None

-- the number behind `--workers`
abbrev pub met_with_number : Met → List ℕ → Option Met
met_with_number met number = if is_some (count_of number) then Some (record met { workers = stage.Said }) else None

-- one more word, where admitted words go on so
abbrev pub met_with : Verb → Stage → Met → List ℕ → Option Met
met_with verb stage.Unsaid met word = if is_workers word then Some (record met { workers = stage.Awaited }) else met_with_other verb met word
met_with verb stage.Awaited met word = met_with_number met word
met_with verb stage.Said met word = if is_workers word then None else met_with_other verb met word

-- admitted words may end here
abbrev pub is_awaited : Stage → Bool
is_awaited stage.Awaited = true
is_awaited _ = false

abbrev pub is_whole : Met → Bool
is_whole met = met.word && not (is_awaited met.workers)

-- something is asked for
abbrev pub IsAdmitted : Parsed → Type 0
IsAdmitted (Asks wish) = Unit {0}
IsAdmitted (BadAt place) = ⊥

-- what testing the words says of them
abbrev pub Tests : {A : Type 0} → Result A WordsError → Parsed → Type 0
Tests (Ok _) found = IsAdmitted found
Tests (Err (error.Bad k)) found = found ≡ BadAt k
Tests (Err error.NoMemory) found = ⊥

-- what reading words gave, want of memory apart
abbrev pub Reads : Result Command WordsError → Parsed → Type 0
Reads (Ok c) found = found ≡ Asks (request c)
Reads (Err (error.Bad k)) found = found ≡ BadAt k
Reads (Err error.NoMemory) found = Unit {0}
