-- What memos keep from one point to the next.
use Rattle.std.specs.Prelude.{◌≡◌, ℕ, ◌+◌, ◌<◌, ◌≤◌, All, List, length, slice_get, slice_range, Option, Some}
use Rattle.prime_field.specs.declared.Modulus.{Modulus}
use Rattle.prime_field.specs.Modulus.{value_of}
use Rattle.prime_field.specs.Residue.{IsPrime}
use Rattle.graph_file.specs.declared.graph.Graph.{Graph}
use Rattle.graph_eval.specs.declared.learned.GraphLearned.{GraphLearned}
use Rattle.graph_eval.specs.declared.memos.MemoFrame.{MemoFrame}
use Rattle.graph_eval.specs.GraphValue.{GraphValue, Value}

-- the place behind a memo's last word
abbrev pub frame_end : MemoFrame → ℕ
frame_end frame = frame.at + frame.inputs + frame.outputs

-- the inputs that a memo keeps, and the output
abbrev pub kept_input : List ℕ → MemoFrame → List ℕ
kept_input kept frame = slice_range kept frame.at (frame.at + frame.inputs)

abbrev pub kept_output : List ℕ → MemoFrame → List ℕ
kept_output kept frame = slice_range kept (frame.at + frame.inputs) (frame_end frame)

-- where the modulus is prime, the output is the graph's value at the inputs
pub record Holds (graphs : List Graph) (sets : List (List (List ℕ))) (kept : List ℕ) (frame : MemoFrame) (m : Modulus) : Type 0 where
  pub value : IsPrime (value_of m) → GraphValue (value_of m) graphs sets frame.graph (kept_input kept frame) (Value (kept_output kept frame))
  pub low : All (λ x. x < value_of m) (kept_output kept frame)

-- memos have their places among so many words, one behind the other
pub record FramesStand (frames : List MemoFrame) (count : ℕ) : Type 0 where
  pub within : (i : ℕ) (frame : MemoFrame) → slice_get frames i ≡ Some frame → frame_end frame ≤ count
  pub apart : (i j : ℕ) (first second : MemoFrame) → i < j → slice_get frames i ≡ Some first → slice_get frames j ≡ Some second → frame_end first ≤ second.at

-- what each memo keeps holds by the modulus by which it keeps it
pub record AreKept (graphs : List Graph) (sets : List (List (List ℕ))) (frames : List MemoFrame) (moduli : List (Option Modulus)) (kept : List ℕ) : Type 0 where
  pub stand : FramesStand frames (length kept)
  pub many : length moduli ≡ length frames
  pub each : (i : ℕ) (frame : MemoFrame) (m : Modulus) → slice_get frames i ≡ Some frame → slice_get moduli i ≡ Some (Some m) → Holds graphs sets kept frame m

-- a memo has room for the inputs and the output of an earlier graph
pub record FitsFrame (graphs : List Graph) (learned : List GraphLearned) (frame : MemoFrame) : Type 0 where
  pub called : frame.graph < length graphs
  pub known : frame.graph < length learned
  pub inputs : (graph : Graph) → slice_get graphs frame.graph ≡ Some graph → frame.inputs ≡ length graph.inputs
  pub outputs : (entry : GraphLearned) → slice_get learned frame.graph ≡ Some entry → frame.outputs ≡ entry.output

-- each memo has
pub record FitFrames (graphs : List Graph) (learned : List GraphLearned) (frames : List MemoFrame) : Type 0 where
  pub each : (i : ℕ) (frame : MemoFrame) → slice_get frames i ≡ Some frame → FitsFrame graphs learned frame

-- these memos have their places among so many words, one behind the other, and room for the graphs that they call
pub record AreFrames (graphs : List Graph) (learned : List GraphLearned) (frames : List MemoFrame) (count : ℕ) : Type 0 where
  pub stand : FramesStand frames count
  pub fit : FitFrames graphs learned frames
