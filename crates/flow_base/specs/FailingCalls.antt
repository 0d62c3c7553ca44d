-- Which calls of a device in memory are to fail.
use Rattle.std.specs.Prelude.{ℕ, ◌+◌, List, Contains}

-- after so many calls, the number of the next one, counted from 1, stands in the list of those that fail
abbrev pub IsToFail : List ℕ → ℕ → Type 0
IsToFail failing calls = Contains failing (calls + 1)
