-- The lengths for the sources so far.
use Rattle.std.proofs.Common.{◌≡◌, map, take}
use Rattle.graph_eval.specs.Learned.{named_length}
use Rattle.graph_eval.proofs.lengths.named_lengths.Given as goal

abbrev pub invariant-loop-source : goal.invariant-loop-source
invariant-loop-source l = l.named.items ≡ map (named_length l.inputs l.lengths) (take l.source-index l.sources)
