-- The entries of a point, kept in eight places.
use Rattle.std.specs.Prelude.{◌≡◌, ℕ, ◌<◌, ◌≤◌, List, ◌++◌, take, length, replicate, slice_index}

-- the list with zeros behind it, up to eight places
abbrev pub padded : List ℕ → List ℕ
padded entries = take 8 (entries ++ replicate 8 0)

-- there are 1 to 8 entries, each below 2^61 - 1
pub record IsPoint (entries : List ℕ) : Type 0 where
  pub some : 1 ≤ length entries
  pub few : length entries ≤ 8
  pub below : (k : ℕ) → k < length entries → slice_index entries k < 2305843009213693951

-- the first `count` places hold a point's entries, and the others zeros
pub record IsStored (entries : List ℕ) (count : ℕ) : Type 0 where
  pub counted : length (take count entries) ≡ count
  pub is_padded : padded (take count entries) ≡ entries
  pub is_point : IsPoint (take count entries)
