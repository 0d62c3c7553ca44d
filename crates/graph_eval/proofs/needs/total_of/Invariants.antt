-- The entries of the lists so far.
use Rattle.std.proofs.Common.{◌≡◌, ◌*◌, ◌≤◌, sum, take}
use Rattle.graph_eval.proofs.needs.total_of.Given as goal

abbrev pub invariant-loop-own : goal.invariant-loop-own
invariant-loop-own l = record { total : l.total ≡ sum (take l.own-index l.lengths); bound : l.total ≤ l.own-index * 4294967295 }
