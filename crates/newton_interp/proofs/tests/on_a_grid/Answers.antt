use Rattle.std.proofs.Common.{[], ◌∷◌, refl, arith}
use Rattle.newton_interp.proofs.WrittenAxes.{written-axis}
use Rattle.newton_interp.proofs.tests.on_a_grid.Goals as goal

pub newton_grid-requires-clause-axes : goal.newton_grid-requires-clause-axes
newton_grid-requires-clause-axes g c =
    (written-axis c.first.result c.in_ok-y.y.values.items (10 ∷ 11 ∷ []) c.in_ok-y.ensures.values (omega arith) refl refl, (written-axis c.first.result c.in_ok-z.z.values.items (20 ∷ 21 ∷ []) c.in_ok-z.ensures.values (omega arith) refl refl, tt))
