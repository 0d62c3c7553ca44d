-- A region as contracts see it, and the words at a place in it.
use Rattle.std.specs.Prelude.{ℕ, List, ◌++◌, length, take, drop}

-- how many words a region has, and those of them that are used, which are the first
pub record Words : Type 0 where
  pub size : ℕ
  pub used : List ℕ

-- the words after ws was written over as many of them from a place on; what would pass the end is cut
abbrev pub written_at : ℕ → List ℕ → List ℕ → List ℕ
written_at at ws words = take (length words) (take at words ++ (ws ++ drop (length ws) (drop at words)))
