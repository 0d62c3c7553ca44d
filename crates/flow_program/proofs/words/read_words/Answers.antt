-- What was read of the words is what they ask for, or where they go wrong.
use Rattle.std.proofs.Common.{◌≡◌, ℕ, List, Result, Ok, Err, Some, subst}
use Rattle.std.specs.Prelude.{IfOk}
use Rattle.flow_program.specs.declared.words.Command.{Command}
use Rattle.flow_program.specs.declared.words.WordsError.{WordsError}
use Rattle.flow_program.specs.Words.{HasCounts, asked, request, texts}
use Rattle.flow_program.specs.Parsed.{Reads, parsed}
use Rattle.flow_program.proofs.WordsLaws.{asked_counts, parsed_asks, parsed_bad}
use Rattle.flow_program.proofs.words.read_words.Goals as goal

asks : (words : List (List ℕ)) (read : Result Command WordsError) → Reads read (parsed words) → IfOk read (λ command. asked words ≡ Some (request command))
asks words (Ok command) is = parsed_asks words (request command) is
asks words (Err error) is = tt

pub returns-clause-asked : goal.returns-clause-asked
returns-clause-asked c = asks (texts c.args.words.now) c.parse_words.result c.parse_words.ensures

pub returns-clause-bad : goal.returns-clause-bad
returns-clause-bad c = λ k is. parsed_bad (texts c.args.words.now) k (subst (λ (read : Result Command WordsError). Reads read (parsed (texts c.args.words.now))) is c.parse_words.ensures)

counts : (words : List (List ℕ)) (read : Result Command WordsError) → Reads read (parsed words) → IfOk read (λ command. HasCounts (request command))
counts words (Ok command) is = asked_counts words (request command) (parsed_asks words (request command) is)
counts words (Err error) is = tt

pub returns-clause-counts : goal.returns-clause-counts
returns-clause-counts c = counts (texts c.args.words.now) c.parse_words.result c.parse_words.ensures
