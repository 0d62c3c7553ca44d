use Rattle.std.proofs.Common.{[], ◌∷◌, refl}
use Rattle.univariate.proofs.Small.{listed-apart}
use Rattle.thiele_interp.proofs.tests.a_common_factor_stays.Goals as goal

pub least_pair-requires-clause-apart : goal.least_pair-requires-clause-apart
least_pair-requires-clause-apart g c = listed-apart c.first-m.result (1 ∷ 2 ∷ 3 ∷ []) refl

pub least_pair-requires-2-clause-apart : goal.least_pair-requires-2-clause-apart
least_pair-requires-2-clause-apart g c = listed-apart c.first-m.result (1 ∷ 2 ∷ 3 ∷ 4 ∷ []) refl
