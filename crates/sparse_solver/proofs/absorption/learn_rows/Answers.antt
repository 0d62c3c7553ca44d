-- Each row is kept behind those taken before it, and stands in the list of those that cut or of those that followed.
use Rattle.std.proofs.Common.{◌≡◌, ℕ, List, [], ◌∷◌, ◌++◌, length, get_or, refl, sym, subst}
use Rattle.prime_field.specs.Modulus.{value_of}
use Rattle.sparse_solver.specs.Order.{TakesEach}
use Rattle.sparse_solver.proofs.Absorbed.{absorbed_all, absorbed_more, absorbed_none, not_new, not_same}
use Rattle.sparse_solver.proofs.Orders.{Takes-cutting, Takes-end, Takes-following, TakesSoFar-along}
use Rattle.sparse_solver.proofs.absorption.learn_rows.Goals as goal
use Rattle.sparse_solver.proofs.absorption.learn_rows.Goals.{in-New+in_ok-push-in-New, in-Same+in_ok-push-in-Same}

pub returns-in-Contradiction-clause-unsolvable : goal.returns-in-Contradiction-clause-unsolvable
returns-in-Contradiction-clause-unsolvable c =
    absorbed_none (value_of c.args.m) c.args.unknowns c.args.rows.now c.args.values.now c.args.order.now _ _ _ _ c.loop-number.number-index _ _ c.loop-number-test.true refl
    c.loop-number.invariant.0 c.absorb_row.ensures.absorbed c.requires.order c.in-Contradiction.is

pub loop-number-preserved : goal.loop-number-preserved
loop-number-preserved c =
    let low = c.requires.order.within c.loop-number.number-index 0 c.loop-number-test.true in
    elim c.match-absorb_row.branch [
      | in-New+in_ok-push-in-New w ↦
          let cutting : c.match-absorb_row.cutting.items ≡ c.loop-number.cutting.items ++ get_or c.args.order.now c.loop-number.number-index 0 ∷ [] = cc (w.in_ok-push-in-New.ensures.items, w.cutting-is) in
          let following : c.match-absorb_row.following.items ≡ c.loop-number.following.items = cc (w.following-is) in (
            absorbed_more (value_of c.args.m) c.args.unknowns c.args.rows.now c.args.values.now c.args.order.now _ _ _ _ c.loop-number.number-index _ _ c.loop-number-test.true refl
                c.loop-number.invariant.0 c.absorb_row.ensures.absorbed c.absorb_row.ensures.belongs c.absorb_row.ensures.kind (not_new _ w.in-New.is),
            TakesSoFar-along (length c.args.rows.now) c.args.order.now _ _ _ _ _ cutting following
                (Takes-cutting (length c.args.rows.now) c.args.order.now c.loop-number.cutting.items c.loop-number.following.items c.loop-number.number-index _ c.loop-number-test.true refl low c.loop-number.invariant.1),
          )
      | in-Same+in_ok-push-in-Same w ↦
          let cutting : c.match-absorb_row.cutting.items ≡ c.loop-number.cutting.items = cc (w.cutting-is) in
          let following : c.match-absorb_row.following.items ≡ c.loop-number.following.items ++ get_or c.args.order.now c.loop-number.number-index 0 ∷ [] = cc (w.in_ok-push-in-Same.ensures.items, w.following-is) in (
            absorbed_more (value_of c.args.m) c.args.unknowns c.args.rows.now c.args.values.now c.args.order.now _ _ _ _ c.loop-number.number-index _ _ c.loop-number-test.true refl
                c.loop-number.invariant.0 c.absorb_row.ensures.absorbed c.absorb_row.ensures.belongs c.absorb_row.ensures.kind (not_same _ w.in-Same.is),
            TakesSoFar-along (length c.args.rows.now) c.args.order.now _ _ _ _ _ cutting following
                (Takes-following (length c.args.rows.now) c.args.order.now c.loop-number.cutting.items c.loop-number.following.items c.loop-number.number-index _ c.loop-number-test.true refl low c.loop-number.invariant.1),
          )
    ]

pub returns-clause-kept : goal.returns-clause-kept
returns-clause-kept c =
    absorbed_all (value_of c.args.m) c.args.unknowns c.args.rows.now c.args.values.now c.args.order.now _ _ c.loop-number.number-index c.requires.order c.loop-number-test.false c.loop-number.invariant.0

pub returns-clause-order : goal.returns-clause-order
returns-clause-order c =
    subst (λ (order : List ℕ). TakesEach (length c.args.rows.now) order) (sym c.in_ok-append.ensures.items)
    (Takes-end (length c.args.rows.now) c.args.order.now c.loop-number.cutting.items c.loop-number.following.items c.loop-number.number-index c.loop-number-test.false c.requires.order c.loop-number.invariant.1)
