use Rattle.std.proofs.Common.{[], ◌∷◌, refl}
use Rattle.univariate.proofs.Small.{listed-apart}
use Rattle.thiele_interp.proofs.tests.thiele_closes.Goals as goal

pub thiele_over-found-requires-clause-apart : goal.thiele_over-found-requires-clause-apart
thiele_over-found-requires-clause-apart g c = listed-apart c.first-m.result (1 ∷ 2 ∷ 3 ∷ 4 ∷ []) refl

pub thiele_up_to-requires-clause-apart : goal.thiele_up_to-requires-clause-apart
thiele_up_to-requires-clause-apart g c = listed-apart c.first-m.result (1 ∷ 2 ∷ 3 ∷ 4 ∷ []) refl

pub least_pair_up_to-found-requires-clause-apart : goal.least_pair_up_to-found-requires-clause-apart
least_pair_up_to-found-requires-clause-apart g c = listed-apart c.first-m.result (1 ∷ 2 ∷ 3 ∷ 4 ∷ []) refl
