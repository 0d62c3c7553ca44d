-- There is the first gap of each attempt so far.
use Rattle.std.proofs.Common.{◌≡◌, All, length}
use Rattle.std.specs.Prelude.{slice_get}
use Rattle.prime_field.specs.Modulus.{value_of}
use Rattle.prime_field.specs.Residue.{IsPrime}
use Rattle.graph_eval.specs.GraphValue.{GraphValue, main_number}
use Rattle.graph_eval.specs.Learned.{sets_of}
use Rattle.graph_eval.specs.Made.{IsMadeFor}
use Rattle.ray_grid.specs.Attempt.{attempt_points}
use Rattle.ray_grid.specs.Grid.{point_count}
use Rattle.good_attempt.specs.Attempts.{AreFirstGaps}
use Rattle.good_attempt.specs.Tried.{FitsGap}
use Rattle.good_attempt.proofs.tried.first_good.Given as goal

abbrev pub invariant-loop-r : goal.invariant-loop-r
invariant-loop-r g l =
    (length l.gaps.items ≡ l.r) × (IsPrime (value_of l.m) → AreFirstGaps (GraphValue (value_of l.m) l.job.graphs (sets_of l.learned) (main_number l.job.graphs)) (attempt_points l.grid) l.gaps.items) ×
    All (FitsGap (slice_get l.job.graphs (main_number l.job.graphs)) (point_count l.grid)) l.gaps.items ×
    All (IsMadeFor l.job.graphs l.learned) l.crew
