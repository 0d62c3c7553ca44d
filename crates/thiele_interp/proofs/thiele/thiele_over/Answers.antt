use Rattle.thiele_interp.proofs.Closing.{none-follows}
use Rattle.thiele_interp.proofs.thiele.thiele_over.Goals as goal

pub returns-clause-none : goal.returns-clause-none
returns-clause-none c =
    none-follows c.thiele_up_to.result _ _
    (λ none prime e answers. none prime e answers.closes.within answers)
    c.thiele_up_to.ensures.none
