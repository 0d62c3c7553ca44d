use Rattle.std.proofs.Common.{◌≡◌, drop}
use Rattle.basic_nodes.specs.Lengths.{are_within}
use Rattle.basic_nodes.proofs.lengths.are_within.Given as goal

abbrev pub invariant-loop-k : goal.invariant-loop-k
invariant-loop-k l = are_within (drop l.k l.positions) (drop l.k l.lengths) ≡ are_within l.positions l.lengths
