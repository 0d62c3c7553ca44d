use Rattle.std.proofs.Common.{◌≡◌, drop, [], length}
use Rattle.graph_file.specs.Faults as spec
use Rattle.graph_file.proofs.faults.are_new.Given as goal

-- the names before the index are new, and those from it on are new where all are
abbrev pub invariant-loop-name : goal.invariant-loop-name
invariant-loop-name l = (spec.are_new [] l.names ≡ spec.are_new l.before (drop l.name-index l.names)) × (length l.before ≡ l.name-index)
