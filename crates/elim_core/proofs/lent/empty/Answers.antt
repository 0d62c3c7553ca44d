use Rattle.std.proofs.lemmas.Grind.{common_steps}
use Rattle.std.proofs.Common.{arith}
use Rattle.elim_core.proofs.Lists.{empty_laid_out}
use Rattle.elim_core.proofs.lent.empty.Goals as goal

pub returns-clause-laid_out : goal.returns-clause-laid_out
returns-clause-laid_out c m positive =
    empty_laid_out _ _ _ _ positive (grind (arith, common_steps)) (grind (arith, common_steps)) (grind (arith, common_steps))
