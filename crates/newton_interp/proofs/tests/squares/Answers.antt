use Rattle.std.proofs.Common.{[], ◌∷◌, refl}
use Rattle.univariate.proofs.Small.{listed-apart}
use Rattle.newton_interp.proofs.tests.squares.Goals as goal

pub newton-requires-clause-apart : goal.newton-requires-clause-apart
newton-requires-clause-apart g c = listed-apart c.first.result (1 ∷ 2 ∷ 3 ∷ []) refl
