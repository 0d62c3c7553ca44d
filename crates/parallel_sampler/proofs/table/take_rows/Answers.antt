-- One row more is taken.
use Rattle.std.proofs.Common.{◌<◌, length, arith}
use Rattle.parallel_sampler.proofs.Gathering.{taken_more}
use Rattle.parallel_sampler.proofs.table.take_rows.Goals as goal

pub loop-i-preserved : goal.loop-i-preserved
loop-i-preserved c =
    let within : c.loop-i.i < length c.loop-i.rows = omega (arith, c.loop-i-test.true, c.loop-i.invariant.long, c.loop-i.auto.rows) in
    taken_more c.loop-i.i c.args.others.now c.args.rows.now c.loop-i.others c.loop-i.rows _ _ c.take_from.new.self c.take_from.new.other
    c.loop-i.invariant within c.requires c.take_from.ensures.row c.take_from.ensures.room
