-- Files in memory: a list of names, each with its bytes. The first of several files of one name counts.
use Rattle.std.specs.Prelude.{ℕ, List, [], ◌∷◌, Option, Some, None, String, Vec, string_bytes, slice_get, bytes_eq, if◌then◌else◌}
use Rattle.std.specs.declared.alloc.Global.{Global}
use Rattle.std.specs.Option.{option_map_or}

-- the bytes of the first file of this name, if there is one
abbrev pub bytes_under : List (String Global × Vec ℕ Global) → List ℕ → Option (List ℕ)
bytes_under [] name = None
bytes_under (file ∷ files) name = if bytes_eq (string_bytes file.0) name then Some file.1.items else bytes_under files name

-- the bytes of the file at this place
abbrev pub bytes_at : List (String Global × Vec ℕ Global) → ℕ → List ℕ
bytes_at files place = option_map_or (λ file. file.1.items) (slice_get files place) []
