use Rattle.std.proofs.Common.{◌≡◌, map, drop}
use Rattle.graph_file.specs.Line.{all_of, size_of}
use Rattle.graph_file.proofs.AllOf.{onto}
use Rattle.graph_file.proofs.numbers.sizes.Given as goal

-- the numbers so far, with those of the words from the index on
abbrev pub invariant-loop-word : goal.invariant-loop-word
invariant-loop-word l =
    all_of (map size_of (map (λ word. word.now) l.words))
    ≡ onto l.all (all_of (map size_of (drop l.word-index (map (λ word. word.now) l.words))))
