-- The values of a row stand behind those of the rows before it.
use Rattle.std.proofs.Common.{rules, ℕ, ◌+◌, ◌-◌, ◌≤◌, List, length, take, drop, get_or, refl, sym, ◌∙◌, ap, subst, arith}
use Rattle.std.proofs.lemmas.Option.{slice_get_read}
use Rattle.sparse_solver.proofs.Systems.{entries-within}
use Rattle.sparse_solver.specs.Packed.{AreColumns}
use Rattle.sparse_solver.proofs.packed.row_at.Goals as goal

pub overflow_add-result : goal.overflow_add-result
overflow_add-result c =
    let at = slice_get_read c.args.rows.now _ c.args.number c.index-rows-number.result refl c.requires.number c.index-rows-number.is in
    let end : get_or c.args.starts.now c.args.number 0 + length c.as_slice-columns.result.now ≤ length c.args.values.now =
    omega (arith, entries-within c.args.rows.now c.args.number c.index-rows-number.result at, c.requires.starts.each c.args.number c.requires.number, ap length (c.as_slice-columns.ensures ∙ ap (λ r. r.columns) (sym c.index-rows-number.is)), c.requires.entries) in
    search rules

pub offset_bounds-values-start : goal.offset_bounds-values-start
offset_bounds-values-start c =
    let at = slice_get_read c.args.rows.now _ c.args.number c.index-rows-number.result refl c.requires.number c.index-rows-number.is in
    let end : get_or c.args.starts.now c.args.number 0 + length c.as_slice-columns.result.now ≤ length c.args.values.now =
    omega (arith, entries-within c.args.rows.now c.args.number c.index-rows-number.result at, c.requires.starts.each c.args.number c.requires.number, ap length (c.as_slice-columns.ensures ∙ ap (λ r. r.columns) (sym c.index-rows-number.is)), c.requires.entries) in
    search rules

pub slice_bounds-result-end : goal.slice_bounds-result-end
slice_bounds-result-end c =
    let at = slice_get_read c.args.rows.now _ c.args.number c.index-rows-number.result refl c.requires.number c.index-rows-number.is in
    let end : get_or c.args.starts.now c.args.number 0 + length c.as_slice-columns.result.now ≤ length c.args.values.now =
    omega (arith, entries-within c.args.rows.now c.args.number c.index-rows-number.result at, c.requires.starts.each c.args.number c.requires.number, ap length (c.as_slice-columns.ensures ∙ ap (λ r. r.columns) (sym c.index-rows-number.is)), c.requires.entries) in
    search rules

pub returns-clause-within : goal.returns-clause-within
returns-clause-within c =
    let at = slice_get_read c.args.rows.now _ c.args.number c.index-rows-number.result refl c.requires.number c.index-rows-number.is in
    let within : AreColumns (c.args.unknowns + 1) c.index-rows-number.result.columns = λ i low. omega (arith, (c.requires.sparse c.args.number c.index-rows-number.result at).within i low) in
    subst (λ (columns : List ℕ). AreColumns (c.args.unknowns + 1) columns) (sym (c.as_slice-columns.ensures ∙ ap (λ r. r.columns) (sym c.index-rows-number.is))) within

pub returns-clause-row : goal.returns-clause-row
returns-clause-row c = record {
  row = c.index-rows-number.result;
  at = slice_get_read c.args.rows.now _ c.args.number c.index-rows-number.result refl c.requires.number c.index-rows-number.is;
  columns_are = c.as_slice-columns.ensures ∙ ap (λ r. r.columns) (sym c.index-rows-number.is);
  values_are = ap (λ n. take (get_or c.args.starts.now c.args.number 0 + n - get_or c.args.starts.now c.args.number 0) (drop (get_or c.args.starts.now c.args.number 0) c.args.values.now)) (ap length (c.as_slice-columns.ensures ∙ ap (λ r. r.columns) (sym c.index-rows-number.is)));
}
