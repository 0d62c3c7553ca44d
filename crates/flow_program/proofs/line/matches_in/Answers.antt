-- `clap` takes the words, so that only want of memory is left, and what it finds is asked for.
use Rattle.std.proofs.Common.{◌≡◌, Some, ap, subst, sym, ◌∙◌}
use Rattle.std.proofs.lemmas.Result.{IfErr-weaker, IfOk-weaker}
use Rattle.clap.specs.Words.{App, is_simple, matches_of, takes}
use Rattle.flow_program.specs.Words.{texts}
use Rattle.flow_program.specs.Parsed.{nothing_given, parsed_from}
use Rattle.flow_program.specs.Lines.{Gives, wish_in}
use Rattle.flow_program.proofs.LineLaws.{asked_wish, is_simple_line, line_read}
use Rattle.flow_program.proofs.line.matches_in.Goals as goal

pub returns : goal.returns
returns c =
    let words = texts c.args.words.now in
    let found = parsed_from c.args.verb 2 nothing_given words in
    let asked = asked_wish found c.requires.admitted in
    let read = line_read c.args.verb words asked.0 asked.1 in
    let line_is = c.in_ok-line.ensures in
    let parse = c.try_get_matches_from in
    record {
      found = IfOk-weaker parse.result _ _ (λ m h. subst (Gives (wish_in c.args.verb _)) (sym asked.1)
          (ap (wish_in c.args.verb) ((h (ap is_simple line_is ∙ is_simple_line c.args.verb)).0 ∙ ap (λ (app : App). matches_of app words) line_is) ∙ read.wished)) parse.ensures.matches;
      fault = IfErr-weaker parse.result _ _ (λ e h. h (ap (λ (app : App). takes app words) line_is ∙ read.taken)) parse.ensures.passes;
    }
