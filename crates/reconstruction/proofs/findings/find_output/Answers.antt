-- What is told over the samples that are read is told over the columns.
use Rattle.std.proofs.Common.{◌∙◌, ◌+◌}
use Rattle.good_attempt.specs.Attempts.{column}
use Rattle.graph_file.specs.Says.{bounds_at, form, grid_of}
use Rattle.rational_lift.specs.Parts.{by_modulus}
use Rattle.output_result.specs.Findings.{output_of}
use Rattle.output_result.specs.Methods.{IsReport, report_of}
use Rattle.output_result.specs.Results.{OutputResult}
use Rattle.reconstruction.specs.Found.{result_told}
use Rattle.reconstruction.proofs.Assembled.{moved_told}
use Rattle.reconstruction.proofs.findings.find_output.Goals as goal

pub returns-clause-result : goal.returns-clause-result
returns-clause-result c =
    let job = c.args.job.now in
    let first = c.args.first.now in
    let second = c.args.second.now in
    moved_told (λ b g r v s w told. OutputResult job.coeff (output_of b g r v s w) (result_told told))
    c.bounds_of-bounds.result (bounds_at (form job) (c.args.k + 1)) c.args.grid.now (grid_of (form job))
    c.attempt.result first.attempt c.deref.result.now (column c.args.k first.rows) c.attempt-2.result second.attempt c.deref-2.result.now (column c.args.k second.rows) c.find.result
    c.bounds_of-bounds.ensures.value c.requires.grid c.attempt.ensures (c.deref.ensures.value ∙ c.in_ok-first_values.ensures) c.attempt-2.ensures (c.deref-2.ensures.value ∙ c.in_ok-second_values.ensures) c.find.ensures.result

pub returns-clause-methods : goal.returns-clause-methods
returns-clause-methods c =
    let job = c.args.job.now in
    let first = c.args.first.now in
    let second = c.args.second.now in
    moved_told (λ b g r v s w told. IsReport g (by_modulus r s) (output_of b g r v s w) (result_told told) (report_of told.methods))
    c.bounds_of-bounds.result (bounds_at (form job) (c.args.k + 1)) c.args.grid.now (grid_of (form job))
    c.attempt.result first.attempt c.deref.result.now (column c.args.k first.rows) c.attempt-2.result second.attempt c.deref-2.result.now (column c.args.k second.rows) c.find.result
    c.bounds_of-bounds.ensures.value c.requires.grid c.attempt.ensures (c.deref.ensures.value ∙ c.in_ok-first_values.ensures) c.attempt-2.ensures (c.deref-2.ensures.value ∙ c.in_ok-second_values.ensures) c.find.ensures.methods
