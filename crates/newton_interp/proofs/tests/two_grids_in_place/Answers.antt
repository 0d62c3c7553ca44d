use Rattle.std.proofs.Common.{[], ◌∷◌, refl, arith}
use Rattle.newton_interp.proofs.WrittenAxes.{written-axis}
use Rattle.newton_interp.proofs.tests.two_grids_in_place.Goals as goal

pub interpolate_grid-requires-clause-axes : goal.interpolate_grid-requires-clause-axes
interpolate_grid-requires-clause-axes g c =
    (written-axis c.second.result c.in_ok-y.y.values.items (10 ∷ 11 ∷ []) c.in_ok-y.ensures.values (omega arith) refl refl, (written-axis c.second.result c.in_ok-z.z.values.items (20 ∷ 21 ∷ []) c.in_ok-z.ensures.values (omega arith) refl refl, tt))
