-- The row's words are those that the evaluation wrote.
use Rattle.std.proofs.Common.{◌≡◌, ◌<◌, Some, length, sym, ◌∙◌, ap, subst, arith}
use Rattle.std.specs.Prelude.{map, slice_get, vec_len}
use Rattle.std.proofs.lemmas.List.{length-map, with_items_is}
use Rattle.prime_field.specs.Modulus.{value_of}
use Rattle.graph_eval.specs.Evaluated.{outcome_of}
use Rattle.graph_eval.specs.GraphValue.{Outcome, main_number}
use Rattle.graph_eval.specs.Learned.{outputs_of}
use Rattle.parallel_sampler.specs.declared.row.Row.{Row}
use Rattle.parallel_sampler.specs.Filled.{Filling, IsMainValue, kept_row}
use Rattle.parallel_sampler.proofs.Filling.{puts_row}
use Rattle.parallel_sampler.proofs.Tables.{fits_row}
use Rattle.parallel_sampler.proofs.table.Table.put.Goals as goal

pub returns-clause-row : goal.returns-clause-row
returns-clause-row c =
    let s = c.self.inside in
    let m = value_of c.args.m in
    let graphs = c.args.job.now.graphs in
    let learned = c.args.learned.now in
    let old = c.index_mut-row.result.now in
    let out = c.eval_point-outcome.new.out in
    let outcome : Outcome = outcome_of out c.eval_point-outcome.result in
    let rows : length (map kept_row s.rows.items) ≡ length c.args.self.now.rows = ap (λ (f : Filling). length f.rows) c.self.view_is in
    let room : s.room ≡ c.args.self.now.room = ap (λ (f : Filling). f.room) c.self.view_is in
    let within : c.args.i < length s.rows.items = omega (arith, c.requires.row, rows, length-map s.rows.items kept_row) in
    let words : vec_len old.words ≡ s.room = subst (λ (r : Row). vec_len r.words ≡ s.room) (sym c.index_mut-row.ensures.value) (c.self.invariant c.args.i old within) in
    let written : length out ≡ vec_len old.words = c.eval_point-outcome.auto.out ∙ c.as_mut_slice.ensures.len in
    let many : length out ≡ outputs_of learned = written ∙ words ∙ room ∙ c.requires.room in
    let is : IsMainValue m graphs learned c.args.point.now outcome = record {
      fits = fits_row m (slice_get graphs (main_number graphs)) (outputs_of learned) out c.eval_point-outcome.result many c.eval_point-outcome.ensures.fits;
      value = c.eval_point-outcome.ensures.value;
    } in
    puts_row m graphs learned c.args.point.now c.args.i c.args.self.now s.rows.items s.room _ outcome c.self.view_is
    (ap (λ ws. Some (outcome_of ws c.eval_point-outcome.result)) (with_items_is old.words out written)) is
