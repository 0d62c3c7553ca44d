-- The rows so far have values.
use Rattle.std.proofs.Common.{All, take}
use Rattle.good_attempt.specs.Kept.{IsDefined}
use Rattle.good_attempt.proofs.tried.first_gap.Given as goal

abbrev pub invariant-loop-i : goal.invariant-loop-i
invariant-loop-i l = All IsDefined (take l.i l.samples)
