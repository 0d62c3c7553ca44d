use Rattle.std.proofs.Common.{◌≡◌, map, drop}
use Rattle.graph_file.specs.Line.{all_of}
use Rattle.graph_file.specs.Says.{source_named}
use Rattle.graph_file.proofs.AllOf.{onto}
use Rattle.graph_file.proofs.kind.sources_named.Given as goal

-- the lists so far, with those from the index on
abbrev pub invariant-loop-list : goal.invariant-loop-list
invariant-loop-list l = all_of (map (source_named l.nodes) l.lists) ≡ onto l.sources (all_of (map (source_named l.nodes) (drop l.list-index l.lists)))
