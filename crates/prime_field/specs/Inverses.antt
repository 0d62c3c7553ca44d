-- Lists of inverses.
use Rattle.std.specs.Prelude.{◌≡◌, ℕ, ◌<◌, ◌*◌, ◌%◌, List, length, slice_index}

-- each entry of `inverses` is the inverse modulo m of the entry of `xs` at its place
pub record AreInverses (m : ℕ) (xs inverses : List ℕ) : Type 0 where
  pub lengths : length inverses ≡ length xs
  pub residues : (k : ℕ) → k < length xs → slice_index inverses k < m
  pub products : (k : ℕ) → k < length xs → (slice_index xs k * slice_index inverses k) % m ≡ 1
