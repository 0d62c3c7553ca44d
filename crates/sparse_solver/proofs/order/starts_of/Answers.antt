use Rattle.std.proofs.Common.{◌≡◌, ◌+◌, length, refl, ap, arith}
use Rattle.std.proofs.lemmas.Option.{slice_get_read}
use Rattle.sparse_solver.proofs.Orders.{Starts-more}
use Rattle.sparse_solver.proofs.order.starts_of.Goals as goal

pub loop-row-preserved : goal.loop-row-preserved
loop-row-preserved c =
    let at = slice_get_read c.args.rows.now _ c.loop-row.row-index c.row-item.result refl c.loop-row-test.true c.row-item.is in
    let end : c.in-Some.end ≡ c.loop-row.next + length c.row-item.result.columns = omega (arith, c.in-Some.ensures, c.len.ensures, ap (λ r. length r.columns) c.row-item.is) in
    rw c.in_ok-push.ensures.items (Starts-more c.args.rows.now c.loop-row.starts.items c.loop-row.next c.loop-row.row-index c.in-Some.end c.row-item.result at c.loop-row.invariant end)
