use Rattle.elim_core.specs.Layout.{IsRow}
use Rattle.elim_core.specs.Multiples.{multiples, IsAdded}
use Rattle.elim_core.proofs.group.add_group.Given as goal

abbrev pub invariant-loop-index : goal.invariant-loop-index
invariant-loop-index g l =
    IsRow g.F.Field.modulus l.slots.unknowns l.row
    × IsAdded g.F.Field.modulus l.initial.row l.row l.shared l.slots.unknowns (multiples l.slots l.slot l.factors l.index)
