use Rattle.std.proofs.Common.{[], ◌∷◌, refl}
use Rattle.univariate.proofs.Small.{listed-apart}
use Rattle.thiele_interp.proofs.tests.thiele_gives_no_answer.Goals as goal

pub thiele_over-requires-clause-apart : goal.thiele_over-requires-clause-apart
thiele_over-requires-clause-apart g c = listed-apart c.second-m.result (1 ∷ 2 ∷ 3 ∷ []) refl

pub thiele_over-requires-2-clause-apart : goal.thiele_over-requires-2-clause-apart
thiele_over-requires-2-clause-apart g c = listed-apart c.second-m.result (1 ∷ 2 ∷ 3 ∷ []) refl

pub thiele_over-requires-3-clause-apart : goal.thiele_over-requires-3-clause-apart
thiele_over-requires-3-clause-apart g c = listed-apart c.second-m.result (1 ∷ 2 ∷ 3 ∷ []) refl

pub thiele_over-requires-4-clause-apart : goal.thiele_over-requires-4-clause-apart
thiele_over-requires-4-clause-apart g c = listed-apart c.second-m.result (1 ∷ 2 ∷ 3 ∷ []) refl
