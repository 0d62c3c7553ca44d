-- What stands behind the first place at which a list of bytes is cut.
use Rattle.std.specs.Prelude.{ℕ, ◌+◌, ◌==◌, List, [], length, Option, Some, None}
use Rattle.std.specs.List.{slice_split}
use Rattle.std.specs.Borrow.{Bor}

-- the pieces of what stands behind; none where nothing does
abbrev pub pieces_behind : ℕ → Option (Bor (List ℕ)) → List (List ℕ)
pieces_behind at None = []
pieces_behind at (Some rest) = slice_split (λ byte. byte == at) rest.now

-- the bytes that stand behind and the one at which the list was cut
abbrev pub size_behind : Option (Bor (List ℕ)) → ℕ
size_behind None = 0
size_behind (Some rest) = length rest.now + 1
