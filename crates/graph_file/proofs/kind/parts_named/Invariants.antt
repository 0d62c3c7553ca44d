use Rattle.std.proofs.Common.{◌≡◌, map, drop}
use Rattle.graph_file.specs.Line.{all_of}
use Rattle.graph_file.specs.Says.{part_named}
use Rattle.graph_file.proofs.AllOf.{onto}
use Rattle.graph_file.proofs.kind.parts_named.Given as goal

-- the parts so far, with those from the index on
abbrev pub invariant-loop-part : goal.invariant-loop-part
invariant-loop-part l = all_of (map (part_named l.nodes) l.parts) ≡ onto l.wanted (all_of (map (part_named l.nodes) (drop l.part-index l.parts)))
