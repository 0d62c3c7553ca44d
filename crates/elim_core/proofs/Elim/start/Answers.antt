use Rattle.std.proofs.Common.{refl, arith}
use Rattle.prime_field.proofs.Moduli.{value_of-large}
use Rattle.elim_core.proofs.Lists.{kept_free, kept_solvable}
use Rattle.elim_core.proofs.Elim.start.Goals as goal

pub returns-clause-free : goal.returns-clause-free
returns-clause-free c = kept_free _ _ refl c.empty.ensures.none

pub returns-clause-solvable : goal.returns-clause-solvable
returns-clause-solvable c = kept_solvable _ _ refl (c.empty.ensures.laid_out _ (omega (arith, value_of-large c.args.modulus)))
