-- What a run leaves: its status, and what it wrote to out and to err.
use Rattle.std.specs.Prelude.{ℕ, List, []}

pub record Answer : Type 0 where
  pub status : ℕ
  pub out : List ℕ
  pub err : List ℕ

-- nothing on out, and one text on err
abbrev pub refusal : ℕ → List ℕ → Answer
refusal status text = record { status = status; out = []; err = text }
