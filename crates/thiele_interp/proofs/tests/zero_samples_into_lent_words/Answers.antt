use Rattle.std.proofs.Common.{[], ◌∷◌, refl}
use Rattle.univariate.proofs.Small.{listed-apart}
use Rattle.thiele_interp.proofs.tests.zero_samples_into_lent_words.Goals as goal

pub least_pair_over-requires-clause-apart : goal.least_pair_over-requires-clause-apart
least_pair_over-requires-clause-apart g c = listed-apart c.second-m.result (1 ∷ 2 ∷ 3 ∷ []) refl

pub least_pair_over-requires-2-clause-apart : goal.least_pair_over-requires-2-clause-apart
least_pair_over-requires-2-clause-apart g c = listed-apart c.second-m.result (1 ∷ 2 ∷ 3 ∷ []) refl
