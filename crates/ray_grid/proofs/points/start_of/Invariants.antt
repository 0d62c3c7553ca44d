use Rattle.std.proofs.Common.{◌≡◌, length, take}
use Rattle.ray_grid.specs.Attempt.{shift}
use Rattle.ray_grid.proofs.points.start_of.Given as goal

abbrev pub invariant-loop-i : goal.invariant-loop-i
invariant-loop-i l = record { eight : length l.start ≡ 8; done : take l.i l.start ≡ shift l.r l.i }
