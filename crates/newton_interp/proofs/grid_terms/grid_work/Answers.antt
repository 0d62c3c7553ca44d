use Rattle.std.proofs.Common.{◌-◌, length, sym, ap, arith}
use Rattle.newton_interp.specs.Grid.{grid_work}
use Rattle.newton_interp.proofs.Columns.{points-end}
use Rattle.newton_interp.proofs.Monomials.{few-at, work-low}
use Rattle.newton_interp.proofs.grid_terms.grid_work.Goals as goal

pub loop-k-init : goal.loop-k-init
loop-k-init c = ap grid_work (sym (points-end c.args.axes.now))

pub overflow_mul-count : goal.overflow_mul-count
overflow_mul-count c =
    let points = c.points_at-count.result.now in
    omega (arith, work-low (length points) (few-at c.args.axes.now (c.loop-k.k - 1) points c.requires c.points_at-count.ensures))

pub overflow_add-count : goal.overflow_add-count
overflow_add-count c =
    let points = c.points_at-count.result.now in
    omega (arith, work-low (length points) (few-at c.args.axes.now (c.loop-k.k - 1) points c.requires c.points_at-count.ensures))

pub overflow_add-count-in-loop-k : goal.overflow_add-count-in-loop-k
overflow_add-count-in-loop-k c =
    let points = c.points_at-count.result.now in
    omega (arith, work-low (length points) (few-at c.args.axes.now (c.loop-k.k - 1) points c.requires c.points_at-count.ensures))
