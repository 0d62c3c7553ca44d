-- The rows so far.
use Rattle.std.proofs.Common.{◌≡◌, take}
use Rattle.graph_eval.proofs.own.copied.Given as goal

abbrev pub invariant-loop-row : goal.invariant-loop-row
invariant-loop-row l = l.copy ≡ take l.row-index l.rows
