-- What callers see of a sink in memory.
use Rattle.std.specs.Prelude.{ℕ, ◌-◌, ◌<◌, List, length, min, Some, ◌⊎◌}
use Rattle.flow_base.specs.FailingCalls.{IsToFail}
use Rattle.flow_base.specs.Sink.{SinkView}

pub record MemSinkState : Type 0 where
  pub held : List ℕ
  -- a write takes at most so many bytes
  pub most : ℕ
  -- the numbers of the writes that fail
  pub failing : List ℕ
  -- how many writes there were
  pub writes : ℕ
  pub faults : ℕ

abbrev pub mem_sink_view : MemSinkState → SinkView
mem_sink_view sink = record { held = Some sink.held; faults = sink.faults }

-- how many bytes of a piece of this length a write takes
abbrev pub taken_of : MemSinkState → ℕ → ℕ
taken_of sink n = min sink.most n

-- how many bytes a sink has room for
abbrev pub room : ℕ
room = 1048576

-- the next write fails where its number says so, or where it would take more bytes than the room that is left
abbrev pub MustFail : MemSinkState → ℕ → Type 0
MustFail sink count = IsToFail sink.failing sink.writes ⊎ (room - length sink.held < count)
