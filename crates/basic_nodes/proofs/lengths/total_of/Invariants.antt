use Rattle.std.proofs.Common.{◌≡◌, ◌≤◌, sum, take}
use Rattle.basic_nodes.proofs.lengths.total_of.Given as goal

abbrev pub invariant-loop-length : goal.invariant-loop-length
invariant-loop-length l = record {
  within : l.total ≤ 262144;
  total : l.total ≡ sum (take l.length-index l.lengths);
}
