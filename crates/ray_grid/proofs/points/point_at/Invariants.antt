use Rattle.std.proofs.Common.{◌≡◌, length, take}
use Rattle.poly_maps.specs.Moved.{point_sum, scaled}
use Rattle.ray_grid.proofs.points.point_at.Given as goal

abbrev pub invariant-loop-i : goal.invariant-loop-i
invariant-loop-i l = record { eight : length l.entries ≡ 8; done : take l.i l.entries ≡ point_sum (take l.i l.start) (take l.i (scaled l.t l.direction)) }
