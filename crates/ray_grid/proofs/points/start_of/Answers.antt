use Rattle.std.proofs.Common.{◌/◌, ◌∙◌, ap, arith, length-set}
use Rattle.ray_grid.proofs.RayLemmas.{shift_more}
use Rattle.ray_grid.proofs.points.start_of.Goals as goal

pub loop-i-preserved : goal.loop-i-preserved
loop-i-preserved c = record {
  eight = length-set c.loop-i.start c.loop-i.i (c.sequence.result / 16) ∙ c.loop-i.invariant.eight;
  done = shift_more c.args.r c.loop-i.i (c.sequence.result / 16) c.loop-i.start (omega arith) (ap (λ n. n / 16) c.sequence.ensures) c.loop-i.invariant.done;
}
