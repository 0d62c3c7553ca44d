use Rattle.std.proofs.Common.{◌≡◌, ◌+◌, ◌^◌, ◌<◌, ◌∙◌, ap, sym, subst, length, take, drop, get_or, arith}
use Rattle.poly_maps.specs.Moved.{point_sum}
use Rattle.ray_grid.specs.Attempt.{lists_below, ray}
use Rattle.ray_grid.proofs.RayLemmas.{direction-low, rays_more}
use Rattle.ray_grid.proofs.points.+push_rays.Goals as goal

pub push_ray-requires-clause-direction : goal.push_ray-requires-clause-direction
push_ray-requires-clause-direction t c = λ k.
    let last : c.args.i ≡ length c.args.first.now = omega arith in
    let is = ap (λ n. take n c.direction_at-direction.result) last ∙ c.direction_at-direction.ensures in
    subst (λ x. get_or x k 0 < 2 ^ 33) (sym is) (direction-low c.args.first.now c.args.steps c.args.i k c.requires.small.first_low c.requires.steps)

pub loop-j-preserved : goal.loop-j-preserved
loop-j-preserved t c =
    rays_more (λ j. ray c.args.count c.args.start.now (point_sum c.args.first.now j)) c.loop-j.points.items c.args.points.now.items c.push_rays.new.points.items c.args.steps c.args.i c.loop-j.j
    (lists_below (drop (c.args.i + 1) c.args.each.now)) (omega arith) c.loop-j.invariant c.in_ok-push_rays.ensures
