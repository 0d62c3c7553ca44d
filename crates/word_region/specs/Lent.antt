-- What a region ends as, once the frames that it lent are given back.
use Rattle.std.specs.Prelude.{ℕ, List, take}
use Rattle.std.specs.Borrow.{Lends, MutBor, Array, Fml, u64, follows_both}
use Rattle.word_region.specs.declared.Frame.{Frame}
use Rattle.word_region.specs.Words.{Words}
use Rattle.word_region.specs.Frame.{with_frame, all_used}
use Rattle.word_region.specs.contracts.Region.{the_row}

-- the region ends with what was last written through r in the frame, and every other word as it was
abbrev pub LendsFrame : MutBor Words → Frame → MutBor (List ℕ) → Fml
LendsFrame region f r = Lends the_row (Array u64 0) region r (with_frame region.now f)

-- the same of the frame that has all used words
abbrev pub LendsUsed : MutBor Words → MutBor (List ℕ) → Fml
LendsUsed region r = LendsFrame region (all_used region.now) r

-- the region ends with what was last written through x in the frame f and through y in the frame g, and every other word as it was; a list that is longer than its frame is cut
abbrev pub LendsFrames : MutBor Words → Frame → Frame → MutBor (List ℕ) → MutBor (List ℕ) → Fml
LendsFrames region f g x y =
    follows_both the_row (Array u64 0) (Array u64 0) region.ghost_name x.ghost_name y.ghost_name (λ v w. with_frame (with_frame region.now f (take f.len v)) g (take g.len w))
