use Rattle.prime_field.proofs.Moduli.{value_of-large}
use Rattle.elim_core.proofs.Choices.{fixes, decided-same, decided-none}
use Rattle.elim_core.proofs.choice.fix.Goals as goal

pub returns-in-New-clause-fixed : goal.returns-in-New-clause-fixed
returns-in-New-clause-fixed c =
    fixes _ _ _ _ _ (value_of-large c.args.modulus) c.requires.cleared c.requires.place c.requires.value _ _ c.in-New.ensures.says

pub returns-in-Same-clause-refused : goal.returns-in-Same-clause-refused
returns-in-Same-clause-refused c prime =
    decided-same _ _ _ _ _ (value_of-large c.args.modulus) c.requires.cleared c.requires.place c.requires.value _ _ c.in-Same.ensures.says

pub returns-in-Contradiction-clause-refused : goal.returns-in-Contradiction-clause-refused
returns-in-Contradiction-clause-refused c =
    decided-none _ _ _ _ _ (value_of-large c.args.modulus) c.requires.cleared c.requires.place c.requires.value _ _ c.in-Contradiction.ensures.says
