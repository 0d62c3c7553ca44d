use Rattle.elim_core.specs.Layout.{IsRow}
use Rattle.elim_core.specs.Multiples.{multiples, IsAdded}
use Rattle.elim_core.proofs.span.add_rows.Given as goal

abbrev pub invariant-loop-place : goal.invariant-loop-place
invariant-loop-place g l =
    IsRow g.F.Field.modulus l.slots.unknowns l.row
    × IsAdded g.F.Field.modulus l.initial.row l.row l.from l.place (multiples l.slots l.slot l.factors g.row.N)
