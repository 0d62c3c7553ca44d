-- These words have been met, and those that are left say what is asked for.
use Rattle.std.proofs.Common.{◌+◌, drop}
use Rattle.flow_program.specs.Words.{texts}
use Rattle.flow_program.specs.Parsed.{nothing_given, parsed_from}
use Rattle.flow_program.proofs.WordsLaws.{HasMet}
use Rattle.flow_program.proofs.words.test_verb.Given as goal

abbrev pub invariant-loop-index : goal.invariant-loop-index
invariant-loop-index l = HasMet l.verb l.met (parsed_from l.verb 2 nothing_given (texts l.words)) (l.index + 2) (texts (drop l.index l.words))
