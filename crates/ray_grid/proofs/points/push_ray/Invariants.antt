use Rattle.std.proofs.Common.{◌≡◌, ◌-◌, ◌++◌}
use Rattle.ray_grid.specs.Attempt.{ray}
use Rattle.ray_grid.proofs.points.push_ray.Given as goal

abbrev pub invariant-loop-t : goal.invariant-loop-t
invariant-loop-t l = l.points.items ≡ l.initial.points.items ++ ray (l.t - 1) l.start l.direction
