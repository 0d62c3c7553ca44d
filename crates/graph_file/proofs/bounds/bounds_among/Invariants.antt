use Rattle.std.proofs.Common.{◌≡◌, drop}
use Rattle.graph_file.specs.Bounding as spec
use Rattle.graph_file.proofs.bounds.bounds_among.Given as goal

-- no bounds before the index are those of the output
abbrev pub invariant-loop-own : goal.invariant-loop-own
invariant-loop-own l = spec.bounds_among l.special l.every l.output ≡ spec.bounds_among (drop l.own-index l.special) l.every l.output
