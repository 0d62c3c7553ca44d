-- All that is met was marked.
use Rattle.std.proofs.Common.{◌≡◌, ℕ, List, get_or, refl, sym, ◌∙◌, ap, subst, arith}
use Rattle.std.specs.Prelude.{Some, slice_get}
use Rattle.std.proofs.lemmas.Option.{slice_get_read}
use Rattle.elim_core.proofs.Choices.{on_true, true_of}
use Rattle.sparse_solver.specs.Packed.{IsOutside}
use Rattle.sparse_solver.specs.Steps.{IsTurn, head_of, part_of}
use Rattle.sparse_solver.proofs.Turns.{closed_by_marks, read_at}
use Rattle.sparse_solver.proofs.learned.is_turn.Goals as goal

pub returns-clause-turn : goal.returns-clause-turn
returns-clause-turn c = on_true c.are_steps_marked.result (IsTurn c.args.rows.now c.args.steps.now c.args.turn) (λ yes.
    let steps = c.args.steps.now in
    let number_is = read_at steps.numbers.items c.args.turn c.index-number.result.now (omega (arith, c.requires.shaped.roomy.numbers_room, c.requires.turn)) c.index-number.ensures in
    let at = slice_get_read c.args.rows.now _ c.index-number.result.now c.index-rows-number.result refl (omega arith) c.index-rows-number.is in
    let head_same = subst (λ (head : List ℕ). (k : ℕ) → IsOutside head k → get_or c.mark_columns.new.marks k 0 ≡ get_or c.args.marks.now k 0) c.head_columns.ensures.part c.mark_columns.ensures.others in
    let part_same = subst (λ (part : List ℕ). (k : ℕ) → IsOutside part k → get_or c.mark_columns-2.new.marks k 0 ≡ get_or c.mark_columns.new.marks k 0) c.kept_columns.ensures.part c.mark_columns-2.ensures.others in
    record {
      number = omega (arith, number_is);
      row_closed = λ row row_at k outside.
          let same_option : Some c.index-rows-number.result ≡ Some row = sym at ∙ ap (slice_get c.args.rows.now) number_is ∙ row_at in
          let same : c.index-rows-number.result ≡ row = cc in
          subst (λ (columns : List ℕ). IsOutside columns k) (c.as_slice-columns.ensures ∙ ap (λ r. r.columns) (sym c.index-rows-number.is) ∙ ap (λ r. r.columns) same)
          (closed_by_marks c.args.turn k c.args.marks.now c.mark_columns.new.marks c.mark_columns-2.new.marks (head_of steps c.args.turn) (part_of steps c.args.turn steps.columns.items)
          c.as_slice-columns.result.now c.requires.below head_same part_same c.if-not-are_marked.ensures outside);
      step_closed = λ q from to k outside.
          closed_by_marks c.args.turn k c.args.marks.now c.mark_columns.new.marks c.mark_columns-2.new.marks (head_of steps c.args.turn) (part_of steps c.args.turn steps.columns.items)
          (part_of steps (get_or steps.earlier.items q 0) steps.columns.items) c.requires.below head_same part_same
          (λ i low. true_of c.are_steps_marked.result _ c.are_steps_marked.ensures yes q from to i low) outside;
    })
