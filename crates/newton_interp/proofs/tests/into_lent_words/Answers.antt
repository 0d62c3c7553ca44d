use Rattle.std.proofs.Common.{[], ◌∷◌, refl}
use Rattle.univariate.proofs.Small.{listed-apart}
use Rattle.newton_interp.proofs.tests.into_lent_words.Goals as goal

pub newton_over-requires-clause-apart : goal.newton_over-requires-clause-apart
newton_over-requires-clause-apart g c = listed-apart c.second.result (1 ∷ 2 ∷ 4 ∷ []) refl
