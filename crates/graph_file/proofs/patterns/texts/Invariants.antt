use Rattle.std.proofs.Common.{◌≡◌, ◌==◌, ◌++◌}
use Rattle.std.specs.List.{slice_split}
use Rattle.graph_file.specs.Cut.{pieces_behind, size_behind}
use Rattle.graph_file.proofs.patterns.texts.Given as goal

-- the pieces so far, with those of what is left, are those of the text
abbrev pub invariant-loop-rest : goal.invariant-loop-rest
invariant-loop-rest l = slice_split (λ byte. byte == 59) l.text ≡ l.texts ++ pieces_behind 59 l.rest

-- the bytes that are left
abbrev pub decreases-loop-rest : goal.decreases-loop-rest
decreases-loop-rest l = size_behind l.rest
