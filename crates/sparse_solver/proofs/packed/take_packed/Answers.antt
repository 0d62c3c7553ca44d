use Rattle.std.proofs.Common.{◌≡◌, ℕ, ◌*◌, ◌<◌, ap, subst, get_or, length, arith, ◌+◌, sym, ◌∙◌}
use Rattle.std.proofs.lemmas.Grind.{get_or_default_zero}
use Rattle.std.proofs.lemmas.List.Elements.{All-set}
use Rattle.prime_field.specs.Sum.{sum_to}
use Rattle.sparse_solver.specs.Packed.{row_sum}
use Rattle.sparse_solver.proofs.PackedRows.{taken_more, below_more, cleared_more, outside_more}
use Rattle.sparse_solver.proofs.packed.take_packed.Goals as goal

pub loop-i-preserved : goal.loop-i-preserved
loop-i-preserved c = record {
  moved = λ w. taken_more c.args.row.now c.loop-i.row c.args.columns.now c.loop-i.values c.loop-i.i w
      (omega (arith, c.requires.columns c.loop-i.i c.loop-i-test.true, c.loop-i.auto.row)) (omega arith) (c.loop-i.invariant.moved w);
  below = λ m some low.
      let was = c.loop-i.invariant.below m some low in (
        All-set (λ x. x < m) c.loop-i.row (get_or c.args.columns.now c.loop-i.i 0) 0 some was.0,
        below_more m c.loop-i.values c.loop-i.i (get_or c.loop-i.row (get_or c.args.columns.now c.loop-i.i 0) 0) (omega arith)
            (was.0 (get_or c.args.columns.now c.loop-i.i 0) 0 (omega (arith, c.requires.columns c.loop-i.i c.loop-i-test.true, c.loop-i.auto.row))) was.1,
      );
  cleared = cleared_more c.loop-i.row c.args.columns.now c.loop-i.i
      (omega (arith, c.requires.columns c.loop-i.i c.loop-i-test.true, c.loop-i.auto.row)) c.loop-i.invariant.cleared;
  others = λ k outside. outside_more c.args.row.now c.loop-i.row c.args.columns.now c.loop-i.i 0 c.loop-i-test.true c.loop-i.invariant.others k outside;
}

pub returns-clause-moved : goal.returns-clause-moved
returns-clause-moved c w =
    let end : c.loop-i.i ≡ length c.args.columns.now = omega arith in
    ap (λ n. row_sum c.loop-i.row w + sum_to n (λ k. get_or c.loop-i.values k 0 * w (get_or c.args.columns.now k 0))) (sym end) ∙
    c.loop-i.invariant.moved w

pub returns-clause-below : goal.returns-clause-below
returns-clause-below c m some low i d i_low =
    subst (λ (x : ℕ). x < m) (sym (get_or_default_zero c.loop-i.values i d i_low))
    ((c.loop-i.invariant.below m some low).1 i (omega arith))
