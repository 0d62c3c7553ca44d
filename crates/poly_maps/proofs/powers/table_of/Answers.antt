use Rattle.std.proofs.Common.{◌∙◌, arith}
use Rattle.std.proofs.lemmas.List.{length-set}
use Rattle.poly_maps.proofs.PowerLemmas.{power_more, table_more}
use Rattle.poly_maps.proofs.powers.table_of.Goals as goal

pub loop-k-preserved : goal.loop-k-preserved
loop-k-preserved c =
    let so_far = c.loop-k.invariant in
    record {
      room = length-set _ _ _ ∙ so_far.room;
      residue = c.mul-power.ensures.residue;
      power = power_more _ c.args.base c.loop-k.k _ _ so_far.power c.mul-power.ensures.product;
      done = table_more _ c.args.base c.loop-k.k c.loop-k.power c.loop-k.table (omega arith) so_far.power so_far.done;
    }
