use Rattle.std.proofs.Common.{◌∙◌}
use Rattle.elim_core.proofs.Choices.{restored-same, restored-laid_out}
use Rattle.elim_core.proofs.solver.solve_parts.Goals as goal

pub returns-clause-laid_out : goal.returns-clause-laid_out
returns-clause-laid_out c =
    restored-laid_out _ _ _ _ _ _ _ c.requires.laid_out c.write_list-told.ensures.laid_out c.write_list-told.ensures.keeps_used
    (c.copy_from_slice-2.ensures.after ∙ c.copy_from_slice.ensures.after)

pub returns-clause-same : goal.returns-clause-same
returns-clause-same c =
    restored-same _ _ _ _ _ _ _ c.requires.laid_out c.write_list-told.ensures.laid_out c.write_list-told.ensures.keeps_used
    (c.copy_from_slice-2.ensures.after ∙ c.copy_from_slice.ensures.after)
