-- The values of the rows so far, with those of the rows behind them, are all.
use Rattle.std.proofs.Common.{◌≡◌, ◌+◌, drop}
use Rattle.elim_core.specs.Sparse.{entries_of}
use Rattle.graph_eval.proofs.shapes.entries_of.Given as goal

abbrev pub invariant-loop-row : goal.invariant-loop-row
invariant-loop-row l = l.count + entries_of (drop l.row-index l.rows) ≡ entries_of l.rows
