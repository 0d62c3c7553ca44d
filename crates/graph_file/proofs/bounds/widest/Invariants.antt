use Rattle.std.proofs.Common.{◌≡◌, take}
use Rattle.graph_file.specs.Bounding as spec
use Rattle.graph_file.proofs.bounds.widest.Given as goal

-- the greatest degrees of the bounds before the index
abbrev pub invariant-loop-own : goal.invariant-loop-own
invariant-loop-own l = l.widest ≡ spec.widest (spec.bounds_given l.all (take l.own-index l.special))
