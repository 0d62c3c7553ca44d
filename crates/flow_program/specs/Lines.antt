-- The command lines that `clap` reads, and what it finds in them.
use Rattle.std.specs.Prelude.{◌≡◌, ℕ, pos, Bool, true, false, List, [], ◌∷◌, Option, Some, None, codes, bytes_eq, if◌then◌else◌, option_map}
use Rattle.std.specs.Option.{option_and_then}
use Rattle.clap.specs.Words.{App, Row, Rule, Shape, Text, first_of, new_app, new_rule, one_of, with_rule}
use Rattle.clap.specs.Simple.{on_top}
use Rattle.clap.specs.declared.builder.action.ArgAction.TheVariants.{SetTrue}
use Rattle.clap.specs.declared.builder.value_parser.ValueParser.TheVariants as parser
use Rattle.flow_program.specs.Words.{Request, Learn, Sample, Reconstruct, Demo, count_of}
use Rattle.flow_program.specs.Parsed.{Parsed, Asks, BadAt}
use Rattle.flow_program.specs.declared.verb.Verb.{Verb}
use Rattle.flow_program.specs.declared.verb.Verb.TheVariants as verb

-- the option for the number of workers
abbrev pub workers_rule : Rule
workers_rule = record (new_rule (codes "workers")) { long = Some (codes "workers"); parser = Some (parser.Signed (pos 1) (pos 16)); defaults = codes "1" ∷ [] }

-- an option of one word
abbrev pub flag_rule : Text → Rule
flag_rule name = record (new_rule name) { long = Some name; action = Some SetTrue }

-- the file, and the size of a demo
abbrev pub file_rule : Rule
file_rule = record (new_rule (codes "file")) { required = true }

abbrev pub size_rule : Rule
size_rule = record (new_rule (codes "size")) { required = true; parser = Some (parser.Signed (pos 1) (pos 16)) }

-- a command behind whose name nothing stands, and which no word asks for help
abbrev pub plain_app : Text → App
plain_app name = on_top (λ shape. record shape { no_binary_name = true; disable_help_flag = true }) (new_app name)

-- a command with the option for workers, an option of one word and a file
abbrev pub file_app : Text → Text → App
file_app name flag = with_rule (with_rule (with_rule (plain_app name) workers_rule) (flag_rule flag)) file_rule

-- what stands behind a command's name
abbrev pub line_app : Verb → App
line_app verb.Sample = file_app (codes "sample") (codes "second")
line_app verb.Reconstruct = file_app (codes "reconstruct") (codes "report")
line_app verb.Demo = with_rule (with_rule (plain_app (codes "demo")) workers_rule) size_rule

-- a file stands behind `learn`
abbrev pub learn_app : App
learn_app = with_rule (plain_app (codes "learn")) file_rule

-- the number from 1 to 16 that was found under an id
abbrev pub count_at : Text → List Row → Option ℕ
count_at id rows = option_and_then count_of (one_of id rows)

-- whether the text is `true`, where it is that or `false`
abbrev pub truth_of : Text → Option Bool
truth_of text = if bytes_eq text (codes "true") then Some true else if bytes_eq text (codes "false") then Some false else None

-- whether an option of one word was found
abbrev pub flag_at : Text → List Row → Option Bool
flag_at id rows = option_and_then truth_of (one_of id rows)

-- what is asked for with a file, a number of workers and an option of one word, where each was found
abbrev pub file_wish_in : (List ℕ → ℕ → Bool → Request) → Text → List Row → Option Request
file_wish_in wish flag rows =
    option_and_then (λ file. option_and_then (λ workers. option_map (wish file workers) (flag_at flag rows)) (count_at (codes "workers") rows)) (first_of (codes "file") rows)

-- what the command asks for with what was found
abbrev pub wish_in : Verb → List Row → Option Request
wish_in verb.Sample rows = file_wish_in Sample (codes "second") rows
wish_in verb.Reconstruct rows = file_wish_in Reconstruct (codes "report") rows
wish_in verb.Demo rows = option_and_then (λ n. option_map (Demo n) (count_at (codes "workers") rows)) (count_at (codes "size") rows)

abbrev pub learn_in : List Row → Option Request
learn_in rows = option_map Learn (first_of (codes "file") rows)

-- this is asked for
abbrev pub Gives : Option Request → Parsed → Type 0
Gives found (Asks wish) = found ≡ Some wish
Gives found (BadAt place) = ⊥
