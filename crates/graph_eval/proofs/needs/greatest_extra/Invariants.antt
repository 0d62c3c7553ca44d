-- The most so far and what is left give the most of all.
use Rattle.std.proofs.Common.{◌≡◌, drop}
use Rattle.std.specs.Prelude.{max, slice_index}
use Rattle.graph_eval.specs.Needs.{greatest_extra}
use Rattle.graph_eval.proofs.needs.greatest_extra.Given as goal

abbrev pub invariant-loop-node : goal.invariant-loop-node
invariant-loop-node l = greatest_extra (slice_index l.words) l.learned l.graph.nodes ≡ max l.most (greatest_extra (slice_index l.words) l.learned (drop l.node-index l.graph.nodes))
