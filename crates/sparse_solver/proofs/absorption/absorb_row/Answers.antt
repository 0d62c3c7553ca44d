-- The values of a row stand behind those of the rows before it.
use Rattle.std.proofs.Common.{rules, ◌≡◌, ℕ, ◌+◌, ◌-◌, ◌<◌, ◌≤◌, List, length, take, drop, get_or, refl, sym, ◌∙◌, ap, subst, arith}
use Rattle.std.proofs.lemmas.Option.{slice_get_read}
use Rattle.elim_core.specs.Kept.{unknowns_of}
use Rattle.elim_core.specs.Solver.{IsAscending}
use Rattle.sparse_solver.proofs.Absorbed.{row_absorbed}
use Rattle.sparse_solver.proofs.Systems.{entries-within}
use Rattle.sparse_solver.proofs.absorption.absorb_row.Goals as goal

pub overflow_add-start : goal.overflow_add-start
overflow_add-start c =
    let at = slice_get_read c.args.rows.now _ c.args.number c.index-rows-number.result refl c.requires.number c.index-rows-number.is in
    let end : get_or c.args.starts.now c.args.number 0 + length c.as_slice-columns.result.now ≤ length c.args.values.now =
    omega (arith, entries-within c.args.rows.now c.args.number c.index-rows-number.result at, c.requires.starts.each c.args.number c.requires.number, ap length (c.as_slice-columns.ensures ∙ ap (λ r. r.columns) (sym c.index-rows-number.is)), c.requires.entries) in
    search rules

pub offset_bounds-values-start : goal.offset_bounds-values-start
offset_bounds-values-start c =
    let at = slice_get_read c.args.rows.now _ c.args.number c.index-rows-number.result refl c.requires.number c.index-rows-number.is in
    let end : get_or c.args.starts.now c.args.number 0 + length c.as_slice-columns.result.now ≤ length c.args.values.now =
    omega (arith, entries-within c.args.rows.now c.args.number c.index-rows-number.result at, c.requires.starts.each c.args.number c.requires.number, ap length (c.as_slice-columns.ensures ∙ ap (λ r. r.columns) (sym c.index-rows-number.is)), c.requires.entries) in
    search rules

pub slice_bounds-absorb_entries-end : goal.slice_bounds-absorb_entries-end
slice_bounds-absorb_entries-end c =
    let at = slice_get_read c.args.rows.now _ c.args.number c.index-rows-number.result refl c.requires.number c.index-rows-number.is in
    let end : get_or c.args.starts.now c.args.number 0 + length c.as_slice-columns.result.now ≤ length c.args.values.now =
    omega (arith, entries-within c.args.rows.now c.args.number c.index-rows-number.result at, c.requires.starts.each c.args.number c.requires.number, ap length (c.as_slice-columns.ensures ∙ ap (λ r. r.columns) (sym c.index-rows-number.is)), c.requires.entries) in
    search rules

pub absorb_entries-requires-clause-ascending : goal.absorb_entries-requires-clause-ascending
absorb_entries-requires-clause-ascending c =
    let at = slice_get_read c.args.rows.now _ c.args.number c.index-rows-number.result refl c.requires.number c.index-rows-number.is in
    subst (λ (columns : List ℕ). IsAscending columns) (sym (c.as_slice-columns.ensures ∙ ap (λ r. r.columns) (sym c.index-rows-number.is))) (c.requires.sparse c.args.number c.index-rows-number.result at).ascending

pub absorb_entries-requires-clause-columns : goal.absorb_entries-requires-clause-columns
absorb_entries-requires-clause-columns c =
    let at = slice_get_read c.args.rows.now _ c.args.number c.index-rows-number.result refl c.requires.number c.index-rows-number.is in
    subst (λ (columns : List ℕ). (i : ℕ) → i < length columns → get_or columns i 0 ≤ unknowns_of c.args.elimination.now) (sym (c.as_slice-columns.ensures ∙ ap (λ r. r.columns) (sym c.index-rows-number.is))) (c.requires.sparse c.args.number c.index-rows-number.result at).within

pub returns-clause-absorbed : goal.returns-clause-absorbed
returns-clause-absorbed c =
    let at = slice_get_read c.args.rows.now _ c.args.number c.index-rows-number.result refl c.requires.number c.index-rows-number.is in
    let many : get_or c.args.starts.now c.args.number 0 + length c.as_slice-columns.result.now - get_or c.args.starts.now c.args.number 0 ≡ length c.index-rows-number.result.columns =
    omega (arith, ap length (c.as_slice-columns.ensures ∙ ap (λ r. r.columns) (sym c.index-rows-number.is))) in
    row_absorbed _ _ _ _ _ c.args.rows.now c.args.values.now c.args.number c.index-rows-number.result _ _ at (c.as_slice-columns.ensures ∙ ap (λ r. r.columns) (sym c.index-rows-number.is))
    (ap (λ n. take n (drop (get_or c.args.starts.now c.args.number 0) c.args.values.now)) many
    ∙ ap (λ n. take (length c.index-rows-number.result.columns) (drop n c.args.values.now)) (c.requires.starts.each c.args.number c.requires.number))
    c.absorb_entries.ensures.absorbed
