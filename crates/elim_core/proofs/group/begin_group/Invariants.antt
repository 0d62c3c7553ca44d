use Rattle.elim_core.proofs.Taken.{GroupSoFar}
use Rattle.elim_core.proofs.group.begin_group.Given as goal

abbrev pub invariant-loop-slot : goal.invariant-loop-slot
invariant-loop-slot g l =
    GroupSoFar g.F.Field.modulus l.slots l.initial.row l.row l.group l.place l.to l.end l.slot
