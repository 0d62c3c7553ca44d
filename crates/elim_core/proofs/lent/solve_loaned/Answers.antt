use Rattle.std.proofs.Common.{◌+◌, [], refl, ◌∙◌, ap, take}
use Rattle.std.specs.Bool.{OnFalse}
use Rattle.prime_field.specs.Modulus.{value_of}
use Rattle.prime_field.specs.Residue.{IsPrime}
use Rattle.elim_core.specs.Rows.{IsUntold}
use Rattle.elim_core.specs.Layout.{entry}
use Rattle.elim_core.specs.Solver.{has_number}
use Rattle.elim_core.proofs.Lists.{moved}
use Rattle.elim_core.proofs.lent.solve_loaned.Goals as goal

pub returns-clause-undefined : goal.returns-clause-undefined
returns-clause-undefined c =
    moved (λ a b r. OnFalse c.solve_parts.result (IsPrime (value_of c.args.modulus) → IsUntold (value_of c.args.modulus) c.args.unknowns (entry c.args.unknowns a b) (λ k. has_number c.args.set.now (k + 1))))
    c.split_at_mut-rows.result.0.now c.split_at_mut-ends.result.0.now [] _ _ []
    c.split_at_mut-rows.ensures.front
    (c.split_at_mut-ends.ensures.front ∙ ap (take c.args.unknowns) c.split_at_mut-rows.ensures.back)
    refl c.solve_parts.ensures.undefined
