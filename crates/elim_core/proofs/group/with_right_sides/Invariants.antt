use Rattle.std.proofs.Common.{◌≡◌, ◌+◌}
use Rattle.elim_core.specs.Multiples.{multiples}
use Rattle.elim_core.proofs.group.with_right_sides.Given as goal

abbrev pub invariant-loop-index : goal.invariant-loop-index
invariant-loop-index g l = l.sum ≡ l.right + multiples l.slots l.slot l.factors l.index l.slots.unknowns
