use Rattle.std.proofs.Common.{◌≡◌, length, take}
use Rattle.poly_maps.specs.Moved.{point_sum}
use Rattle.ray_grid.proofs.points.direction_at.Given as goal

abbrev pub invariant-loop-i : goal.invariant-loop-i
invariant-loop-i l = record { eight : length l.direction ≡ 8; done : take l.i l.direction ≡ point_sum (take l.i l.first) (take l.i l.steps) }
