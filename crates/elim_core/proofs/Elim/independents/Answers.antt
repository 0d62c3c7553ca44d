use Rattle.std.proofs.Common.{get_or, sym, ◌∙◌, ap}
use Rattle.elim_core.proofs.Solvers.{solvable_opened, empty_independent, independent_empty}
use Rattle.elim_core.proofs.Elim.independents.Goals as goal

pub returns-clause-listed : goal.returns-clause-listed
returns-clause-listed c k low = (
  λ has.
      empty_independent _ _ (solvable_opened _ _ c.requires.solvable) c.requires.belongs.laid_out k low
      (sym (ap (λ xs. get_or xs k 0) c.ends_in.ensures) ∙ c.list_empty.ensures.only k low has),
  λ independent.
      c.list_empty.ensures.all k low
      (ap (λ xs. get_or xs k 0) c.ends_in.ensures ∙
      independent_empty _ _ (solvable_opened _ _ c.requires.solvable) c.requires.belongs.laid_out k low independent),
)
