use Rattle.std.proofs.Common.{◌/◌, ◌^◌, ◌∙◌, ap, arith, length-set}
use Rattle.ray_grid.proofs.RayLemmas.{slopes_more}
use Rattle.ray_grid.proofs.points.first_direction.Goals as goal

pub loop-i-preserved : goal.loop-i-preserved
loop-i-preserved c = record {
  eight = length-set c.loop-i.direction c.loop-i.i (c.sequence.result / 2 ^ 32) ∙ c.loop-i.invariant.eight;
  done = slopes_more c.args.r c.loop-i.i (c.sequence.result / 2 ^ 32) c.loop-i.direction (omega arith) (omega arith) (ap (λ n. n / 2 ^ 32) c.sequence.ensures) c.loop-i.invariant.done;
}
