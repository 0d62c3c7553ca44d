use Rattle.elim_core.proofs.Turns.{new_row, same_row, no_row}
use Rattle.elim_core.proofs.elimination.absorb_row.Goals as goal

pub returns-then-is_kept-clause-says : goal.returns-then-is_kept-clause-says
returns-then-is_kept-clause-says c =
    new_row _ _ _ _ _ _ _ _ _ c.requires.laid_out c.keep_row-is_kept.ensures.laid_out c.if-is_kept.ensures.used c.if-is_kept.ensures.kept
    c.in-Some.ensures.met

pub returns-then-right-eq0-clause-says : goal.returns-then-right-eq0-clause-says
returns-then-right-eq0-clause-says c =
    same_row _ _ _ _ _ c.in-None.ensures.none c.if-right-eq0.true c.in-None.ensures.met

pub returns-else-right-eq0-clause-says : goal.returns-else-right-eq0-clause-says
returns-else-right-eq0-clause-says c =
    no_row _ _ _ _ _ c.in-None.ensures.none c.if-right-eq0.false c.in-None.ensures.met
