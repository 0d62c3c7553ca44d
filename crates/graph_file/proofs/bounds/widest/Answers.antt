use Rattle.std.proofs.lemmas.Option.{slice_get-get_or}
use Rattle.graph_file.proofs.BoundLemmas.{widest-next}
use Rattle.graph_file.proofs.bounds.widest.Goals as goal

pub widened-widest-requires : goal.widened-widest-requires
widened-widest-requires c = record { low = c.requires.own c.loop-own.own-index _ (slice_get-get_or c.args.special.now c.loop-own.own-index _ c.loop-own-test.true) }

pub loop-own-preserved : goal.loop-own-preserved
loop-own-preserved c = widest-next c.args.all.now c.args.special.now c.loop-own.own-index c.loop-own.widest c.widened-widest.result _ c.loop-own-test.true c.loop-own.invariant c.widened-widest.ensures
