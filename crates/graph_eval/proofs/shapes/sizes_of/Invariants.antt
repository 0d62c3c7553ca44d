-- The sizes of the graphs so far.
use Rattle.std.proofs.Common.{◌≡◌, take}
use Rattle.graph_eval.specs.Learned.{sizes_of}
use Rattle.graph_eval.proofs.shapes.sizes_of.Given as goal

abbrev pub invariant-loop-number : goal.invariant-loop-number
invariant-loop-number l = l.sizes.items ≡ sizes_of l.graphs (take l.number l.learned)
