-- What was done and what the write took are appended, one after the other.
use Rattle.std.proofs.Common.{arith}
use Rattle.std.proofs.lemmas.Grind.{common_steps}
use Rattle.std.proofs.lemmas.List.{take_rest}
use Rattle.std.proofs.Math.Seq.{take-add}
use Rattle.flow_base.proofs.SinkLemmas.{Adds-more}
use Rattle.flow_base.proofs.sink.write_all_of.Goals as goal

pub write-preserved : goal.write-preserved
write-preserved g c =
    let bytes = c.args.bytes.now in
    let step = rw (take_rest bytes c.write.done) at c.in-Ok.ensures.bytes in
    record {
      added = rw (take-add c.write.done c.in-Ok.count bytes) (Adds-more _ _ _ _ _ c.write.invariant.added step);
      within = grind (arith, common_steps);
    }
