use Rattle.std.proofs.Common.{◌+◌, ◌∙◌, slice_index, refl, arith, length-set}
use Rattle.ray_grid.proofs.RayLemmas.{sum_more}
use Rattle.ray_grid.proofs.points.direction_at.Goals as goal

pub loop-i-preserved : goal.loop-i-preserved
loop-i-preserved c =
    let i = c.loop-i.i in
    let sum = slice_index c.args.first.now i + slice_index c.args.steps.now i in
    record {
      eight = length-set c.loop-i.direction i sum ∙ c.loop-i.invariant.eight;
      done = sum_more i sum c.loop-i.direction c.args.first.now c.args.steps.now (omega arith) (omega arith) c.requires.steps_count refl c.loop-i.invariant.done;
    }
