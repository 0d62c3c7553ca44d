use Rattle.std.proofs.Common.{suc, ◌∷◌, drop, sym, ◌∙◌, ap}
use Rattle.newton_interp.specs.Grid.{points_of}
use Rattle.newton_interp.specs.declared.grid.Axis.{Axis}
use Rattle.newton_interp.proofs.Columns.{points-at}
use Rattle.newton_interp.proofs.grid.points_at.Goals as goal

pub returns : goal.returns
returns c =
    let axes = c.args.axes.now in
    points-at axes c.args.k c.index-axes-k.result c.requires c.index-axes-k.is ∙
    ap (λ p. p ∷ drop (suc c.args.k) (points_of axes)) (ap (λ (a : Axis). a.values.items) c.index-axes-k.is ∙ sym c.as_slice.ensures.value)
