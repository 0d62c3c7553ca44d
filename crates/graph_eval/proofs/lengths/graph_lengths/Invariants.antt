-- The nodes so far have their lengths.
use Rattle.std.proofs.Common.{[]}
use Rattle.graph_eval.proofs.LengthLaws.{LengthsSoFar}
use Rattle.graph_eval.proofs.lengths.graph_lengths.Given as goal

abbrev pub invariant-loop-place : goal.invariant-loop-place
invariant-loop-place l = LengthsSoFar l.sizes l.graph [] l.lengths.items l.place l.total
