use Rattle.std.proofs.Common.{◌+◌, length, slice_index, arith}
use Rattle.multivar_recon.proofs.Frames.{axes_next}
use Rattle.multivar_recon.proofs.ray_frame.direction_axes.Goals as goal

pub loop-k-preserved : goal.loop-k-preserved
loop-k-preserved c =
    axes_next c.loop-k.k c.args.slopes.now c.args.each.now c.loop-k.axes.items c.push.new.self.items (record { variable = c.loop-k.k + 2; values = c.in_ok-values.values })
    (omega arith) (omega arith) c.requires.lengths c.in_ok-push.ensures.items c.loop-k.invariant (omega arith) c.in_ok-values.ensures
