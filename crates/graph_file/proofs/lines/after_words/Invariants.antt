use Rattle.std.proofs.Common.{◌≡◌}
use Rattle.graph_file.specs.Lines as spec
use Rattle.graph_file.proofs.lines.after_words.Given as goal

-- the rest is what follows the words so far
abbrev pub invariant-loop-turn : goal.invariant-loop-turn
invariant-loop-turn l = l.rest ≡ spec.after_words l._turn l.line
