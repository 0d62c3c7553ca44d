use Rattle.std.proofs.Common.{ℕ, ◌+◌, ◌<◌, List, All, Contains, length, sym, subst, arith}
use Rattle.std.proofs.lemmas.List.Elements.{All-push}
use Rattle.sparse_solver.proofs.Orders.{TakesEach-permutation, TakesEach-upto, Upto-more}
use Rattle.sparse_solver.proofs.order.first_order.Goals as goal

pub loop-number-preserved : goal.loop-number-preserved
loop-number-preserved c =
    subst (λ (items : List ℕ). All (λ k. k < length c.args.rows.now) items × ((k : ℕ) → k < c.loop-number.number + 1 → Contains items k)) (sym c.in_ok-push.ensures.items)
    (All-push (λ k. k < length c.args.rows.now) c.loop-number.order.items c.loop-number.number c.loop-number.invariant.0 c.loop-number-test.true, Upto-more c.loop-number.order.items c.loop-number.number c.loop-number.invariant.1)

pub returns : goal.returns
returns c =
    TakesEach-permutation (length c.args.rows.now) c.loop-number.order.items _ c.sort_unstable_by_key.ensures.permutation
    (TakesEach-upto (length c.args.rows.now) c.loop-number.number c.loop-number.order.items (omega arith) c.loop-number.invariant.0 c.loop-number.invariant.1)
