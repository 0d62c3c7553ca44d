use Rattle.std.proofs.Common.{◌≡◌, ◌∷◌, length, take}
use Rattle.ray_grid.specs.Attempt.{slopes}
use Rattle.ray_grid.proofs.points.first_direction.Given as goal

abbrev pub invariant-loop-i : goal.invariant-loop-i
invariant-loop-i l = record { eight : length l.direction ≡ 8; done : take l.i l.direction ≡ 1 ∷ slopes l.r l.i }
