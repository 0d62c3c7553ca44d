-- The first entries of the column are there.
use Rattle.std.proofs.Common.{◌≡◌, take}
use Rattle.good_attempt.specs.Attempts.{column}
use Rattle.good_attempt.proofs.good.GoodAttempt.column.Given as goal

abbrev pub invariant-loop-i : goal.invariant-loop-i
invariant-loop-i l = l.values.items ≡ take l.i (column l.k l.self.rows)
