-- What a sink of bytes tells, and what a write changes of that.
use Rattle.std.specs.Prelude.{ℕ, ◌≤◌, List, length, take, Option}
use Rattle.std.specs.Io.KnownBytes.{Appends}

pub record SinkView : Type 0 where
  -- what the sink holds, where that is told
  pub held : Option (List ℕ)
  -- how many faults it had
  pub faults : ℕ

-- these bytes are appended, and the count of faults does not fall
pub record Adds (old new : SinkView) (bytes : List ℕ) : Type 0 where
  pub held : Appends old.held new.held bytes
  pub later : old.faults ≤ new.faults

-- a front of these bytes is appended
abbrev pub AddsFront : SinkView → SinkView → List ℕ → Type 0
AddsFront old new bytes = (n : ℕ) × (n ≤ length bytes) × Adds old new (take n bytes)
