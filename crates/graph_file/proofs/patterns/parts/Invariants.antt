use Rattle.std.proofs.Common.{◌≡◌, map, length}
use Rattle.graph_file.specs.Line.{parts_of}
use Rattle.graph_file.proofs.AllOf.{onto}
use Rattle.graph_file.proofs.patterns.parts.Given as goal

-- the parts so far, with those of the words that are left
abbrev pub invariant-loop-rest : goal.invariant-loop-rest
invariant-loop-rest l = parts_of (map (λ word. word.now) l.words) ≡ onto l.parts (parts_of (map (λ word. word.now) l.rest))

-- the words that are left
abbrev pub decreases-loop-rest : goal.decreases-loop-rest
decreases-loop-rest l = length l.rest
