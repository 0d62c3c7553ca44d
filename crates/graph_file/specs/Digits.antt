-- Digits of one number, held against those of another.
use Rattle.std.specs.Prelude.{ℕ, Bool, false, ◌==◌, nat_lt, if◌then◌else◌, List, ◌∷◌}

-- where they differ first, the digit of the first is less
abbrev pub comes_before : List ℕ → List ℕ → Bool
comes_before (d ∷ ds) (e ∷ es) = if d == e then comes_before ds es else nat_lt d e
comes_before _ _ = false
