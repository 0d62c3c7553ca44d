-- Frames of a region.
use Rattle.std.specs.Prelude.{ℕ, ◌+◌, ◌≤◌, ◌⊎◌, List, length, slice_range}
use Rattle.word_region.specs.declared.Frame.{Frame}
use Rattle.word_region.specs.Words.{Words, written_at}

-- the place after a frame's last word
abbrev pub end_of : Frame → ℕ
end_of f = f.at + f.len

-- the frame lies within the used words
abbrev pub IsLive : Words → Frame → Type 0
IsLive r f = end_of f ≤ length r.used

-- one of the two frames ends at or before the place where the other begins
abbrev pub AreApart : Frame → Frame → Type 0
AreApart f g = (end_of f ≤ g.at) ⊎ (end_of g ≤ f.at)

-- the words at the frame's places
abbrev pub words_at : Words → Frame → List ℕ
words_at r f = slice_range r.used f.at (end_of f)

-- the region after ws was written to the frame
abbrev pub with_frame : Words → Frame → List ℕ → Words
with_frame r f ws = record r { used = written_at f.at ws r.used }

-- the frame of all used words
abbrev pub all_used : Words → Frame
all_used r = record { at = 0; len = length r.used }
