use Rattle.std.proofs.Common.{◌≡◌, ◌∷◌, map, drop}
use Rattle.graph_file.specs.Line.{are_ascending}
use Rattle.graph_file.proofs.numbers.ascend_from.Given as goal

-- the words before the index ascend
abbrev pub invariant-loop-word : goal.invariant-loop-word
invariant-loop-word l = are_ascending (l.first ∷ map (λ word. word.now) l.later) ≡ are_ascending (l.before ∷ drop l.word-index (map (λ word. word.now) l.later))
