use Rattle.std.proofs.Common.{◌++◌, ◌∷◌, [], ◌∙◌, ap, arith}
use Rattle.ray_grid.proofs.RayLemmas.{ray_more}
use Rattle.ray_grid.proofs.points.push_ray.Goals as goal

pub loop-t-preserved : goal.loop-t-preserved
loop-t-preserved c =
    ray_more c.loop-t.points.items c.args.points.now.items c.push.new.self.items c.loop-t.t c.args.start.now c.args.direction.now (omega arith) c.loop-t.invariant
    (c.in_ok-push.ensures.items ∙ ap (λ p. c.loop-t.points.items ++ p ∷ []) c.point_at.ensures)
