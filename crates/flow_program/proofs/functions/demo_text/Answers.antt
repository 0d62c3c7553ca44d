-- Four lines, and that of the first output.
use Rattle.std.proofs.Common.{◌≡◌, ℕ, List, ◌++◌, sym, ◌∙◌, ap, length, map}
use Rattle.std.specs.Prelude.{codes, count_by, decimal, take}
use Rattle.std.proofs.lemmas.List.{length-map}
use Rattle.output_result.specs.Texts.{is_found}
use Rattle.reconstruction.specs.Found.{result_told}
use Rattle.flow_program.specs.Reconstructed.{no_reports}
use Rattle.flow_program.proofs.FunctionLaws.{count_by-map, text_written}
use Rattle.flow_program.proofs.functions.demo_text.Goals as goal

pub returns : goal.returns
returns c =
    let results = map result_told c.args.outputs.now in
    text_written c.args.n c.args.points c.args.names.now no_reports results c.new-text.result.items c.push_count.new.text.items c.push_count-2.new.text.items c.push_count-3.new.text.items c.push_count-4.new.text.items c.push_first_line.new.text.items
    c.new-text.ensures.items c.in_ok-push_count.ensures c.in_ok-push_count-2.ensures
    (c.in_ok-push_count-3.ensures ∙ ap (λ n. c.push_count-2.new.text.items ++ (codes "outputs " ++ decimal n ++ codes "\n")) (sym (length-map c.args.outputs.now result_told)))
    (c.in_ok-push_count-4.ensures ∙ ap (λ n. c.push_count-3.new.text.items ++ (codes "found " ++ decimal n ++ codes "\n")) (c.functions_among.ensures ∙ count_by-map is_found result_told c.args.outputs.now))
    c.in_ok-push_first_line.ensures
