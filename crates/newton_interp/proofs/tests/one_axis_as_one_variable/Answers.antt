use Rattle.std.proofs.Common.{[], ◌∷◌, refl, arith}
use Rattle.univariate.proofs.Small.{listed-apart}
use Rattle.newton_interp.proofs.WrittenAxes.{written-axis}
use Rattle.newton_interp.proofs.tests.one_axis_as_one_variable.Goals as goal

pub newton-requires-clause-apart : goal.newton-requires-clause-apart
newton-requires-clause-apart g c = listed-apart c.second-m.result (1 ∷ 2 ∷ 4 ∷ []) refl

pub newton_grid-requires-clause-axes : goal.newton_grid-requires-clause-axes
newton_grid-requires-clause-axes g c = (written-axis c.second-m.result c.in_ok-axis.field-0.values.items (1 ∷ 2 ∷ 4 ∷ []) c.in_ok-axis.ensures.values (omega arith) refl refl, tt)
