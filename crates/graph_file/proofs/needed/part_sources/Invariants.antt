use Rattle.std.proofs.Common.{◌≡◌, map, take}
use Rattle.graph_file.proofs.needed.part_sources.Given as goal

abbrev pub invariant-loop-part : goal.invariant-loop-part
invariant-loop-part l = l.sources ≡ map (λ part. part.0) (take l.part-index l.parts)
