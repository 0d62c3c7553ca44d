use Rattle.std.proofs.Common.{◌≡◌, ◌+◌}
use Rattle.elim_core.specs.Multiples.{multiples}
use Rattle.elim_core.proofs.span.with_multiples.Given as goal

abbrev pub invariant-loop-index : goal.invariant-loop-index
invariant-loop-index g l = l.sum ≡ l.value + multiples l.slots l.slot l.factors l.index l.place
