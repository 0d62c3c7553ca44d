-- A stack of words as contracts see it.
use Rattle.std.specs.Prelude.{ℕ, List}

-- how many words may stand above the kept ones, the kept words, and the words above them
pub record Board : Type 0 where
  pub size : ℕ
  pub kept : List ℕ
  pub words : List ℕ
