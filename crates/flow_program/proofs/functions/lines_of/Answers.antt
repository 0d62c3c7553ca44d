-- Each output can be printed, since all can, and its report is that of how it was found.
use Rattle.std.proofs.Common.{◌≡◌, Option, Some, ap, sym, ◌∙◌, arith, map}
use Rattle.std.specs.Prelude.{slice_get}
use Rattle.std.proofs.lemmas.Option.{slice_get-get_or}
use Rattle.output_result.specs.Methods.{report_of}
use Rattle.output_result.specs.Texts.{results_text}
use Rattle.reconstruction.specs.Found.{reports_in, result_told}
use Rattle.flow_program.specs.Reconstructed.{told_reports}
use Rattle.flow_program.proofs.FunctionLaws.{lines_more, reported_at, shown_one}
use Rattle.flow_program.proofs.functions.lines_of.Goals as goal

pub push_line-requires-clause-shown : goal.push_line-requires-clause-shown
push_line-requires-clause-shown c =
    shown_one c.args.names.now c.args.outputs.now c.loop-k.k c.index-outputs-k.result c.requires.shown
    (slice_get-get_or c.args.outputs.now c.loop-k.k c.index-outputs-k.result (omega (arith, c.loop-k-test.true)) ∙ ap Some (sym c.index-outputs-k.is))

pub loop-k-preserved : goal.loop-k-preserved
loop-k-preserved c =
    let outputs = c.args.outputs.now in
    let told = c.index-outputs-k.result in
    let reports = told_reports c.args.report (reports_in outputs) in
    let at : slice_get outputs c.loop-k.k ≡ Some told = slice_get-get_or outputs c.loop-k.k told (omega (arith, c.loop-k-test.true)) ∙ ap Some (sym c.index-outputs-k.is) in
    lines_more c.args.names.now reports outputs c.loop-k.k told (report_of c.methods_of-methods.result) c.loop-k.text.items c.push_line.new.text.items (results_text c.args.names.now reports (map result_told outputs))
    at (reported_at c.args.report outputs c.loop-k.k told at ∙ sym c.methods_of-methods.ensures) c.loop-k.invariant c.in_ok-push_line.ensures
