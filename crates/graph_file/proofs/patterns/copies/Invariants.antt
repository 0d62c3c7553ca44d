use Rattle.std.proofs.Common.{◌≡◌, map, take}
use Rattle.graph_file.proofs.patterns.copies.Given as goal

abbrev pub invariant-loop-word : goal.invariant-loop-word
invariant-loop-word l = l.copies ≡ map (λ word. word.now) (take l.word-index l.words)
