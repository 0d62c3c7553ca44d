use Rattle.std.proofs.Common.{[], ◌∷◌, refl, arith}
use Rattle.newton_interp.proofs.WrittenAxes.{written-axis}
use Rattle.newton_interp.proofs.tests.three_axes_of_different_lengths.Goals as goal

pub newton_grid-requires-clause-axes : goal.newton_grid-requires-clause-axes
newton_grid-requires-clause-axes g c =
    (written-axis _ c.in_ok-fourth.fourth.values.items (1 ∷ 2 ∷ 3 ∷ []) c.in_ok-fourth.ensures.values (omega arith) refl refl, (written-axis _ c.in_ok-first.first.values.items (5 ∷ []) c.in_ok-first.ensures.values (omega arith) refl refl, (written-axis _ c.in_ok-second.second.values.items (0 ∷ 7 ∷ []) c.in_ok-second.ensures.values (omega arith) refl refl, tt)))
