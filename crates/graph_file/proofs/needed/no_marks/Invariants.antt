use Rattle.std.proofs.Common.{◌≡◌, false}
use Rattle.std.proofs.Math.ListN.{replicate}
use Rattle.graph_file.proofs.needed.no_marks.Given as goal

abbrev pub invariant-loop-place : goal.invariant-loop-place
invariant-loop-place l = l.flags.items ≡ replicate l._place false
