use Rattle.std.proofs.Common.{◌-◌}
use Rattle.elim_core.proofs.Spans.{ReducedSoFar}
use Rattle.elim_core.proofs.elimination.reduce_in.Given as goal

abbrev pub invariant-loop-place : goal.invariant-loop-place
invariant-loop-place g l =
    ReducedSoFar g.F.Field.modulus l.slots.unknowns l.slots.rows.now l.slots.ends.now l.initial.row l.row l.place l.end

abbrev pub decreases-loop-place : goal.decreases-loop-place
decreases-loop-place g l = l.slots.unknowns - l.place
