use Rattle.std.proofs.Common.{◌≡◌, ◌+◌, ◌-◌, ◌++◌, length, take, drop}
use Rattle.std.specs.List.{flat_map}
use Rattle.poly_maps.specs.Enumeration.{prefixed, starting}
use Rattle.poly_maps.specs.Moved.{point_sum}
use Rattle.ray_grid.specs.Attempt.{lists_below, ray}
use Rattle.ray_grid.proofs.points.+push_rays.Given as goal

abbrev pub decreases-push_rays : goal.decreases-push_rays
decreases-push_rays l = length l.each.now - l.i

abbrev pub invariant-loop-j : goal.invariant-loop-j
invariant-loop-j l =
    l.points.items ≡ l.initial.points.items ++ flat_map (λ j. ray l.count l.start (point_sum l.first j)) (prefixed (take l.i l.steps) (starting l.j (λ k. lists_below (drop (l.i + 1) l.each))))
