-- The points at which graphs are learned.
use Rattle.std.specs.Prelude.{ℕ, ◌+◌, ◌*◌, ◌/◌, List, map}
use Rattle.std.specs.List.{range_with_len}
use Rattle.prime_field.specs.Sequence.{word}

-- learning point q of a graph with n variables: entry i, counted from 1, is word 8 * q + i of the sequence, divided by 16
abbrev pub learning_point : ℕ → ℕ → List ℕ
learning_point n q = map (λ i. word (8 * q + i) / 16) (range_with_len 1 n)
