-- `clap` takes the file, so that only want of memory is left, and finds it.
use Rattle.std.proofs.Common.{◌≡◌, Some, ap, ap₂, subst, sym, ◌∙◌}
use Rattle.std.proofs.lemmas.Result.{IfErr-weaker, IfOk-weaker}
use Rattle.clap.specs.Words.{App, app_of, found_of, is_simple, matches_of, rows_of, takes, with_rule}
use Rattle.flow_program.specs.Words.{texts}
use Rattle.flow_program.specs.Parsed.{Parsed, parsed_learn}
use Rattle.flow_program.specs.Lines.{Gives, learn_app, learn_in}
use Rattle.flow_program.proofs.LineLaws.{asked_wish, is_simple_learn, learn_read}
use Rattle.flow_program.proofs.line.learn_matches_in.Goals as goal

pub returns : goal.returns
returns c =
    let words = texts c.args.words.now in
    let asked = asked_wish (parsed_learn words) c.requires.admitted in
    let read = learn_read words asked.0 asked.1 in
    let line_is : app_of c.in_ok-line.line ≡ learn_app = c.in_ok-line.ensures.shape c.file_argument.ensures.local ∙ ap₂ with_rule c.plain_line.ensures c.file_argument.ensures.rule in
    let parse = c.try_get_matches_from in
    record {
      found = IfOk-weaker parse.result _ _ (λ m h. subst (λ (found : Parsed). Gives (learn_in (rows_of (found_of m))) found) (sym asked.1)
          (ap learn_in ((h (ap is_simple line_is ∙ is_simple_learn)).0 ∙ ap (λ (app : App). matches_of app words) line_is) ∙ read.wished)) parse.ensures.matches;
      fault = IfErr-weaker parse.result _ _ (λ e h. h (ap (λ (app : App). takes app words) line_is ∙ read.taken)) parse.ensures.passes;
    }
