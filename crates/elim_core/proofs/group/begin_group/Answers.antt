use Rattle.std.proofs.Common.{arith}
use Rattle.elim_core.proofs.Taken.{group-more}
use Rattle.elim_core.proofs.group.begin_group.Goals as goal

pub loop-slot-preserved : goal.loop-slot-preserved
loop-slot-preserved g c =
    let its_end = c.requires.slots.laid_out.within c.loop-slot.slot (omega arith) in
    group-more _ _ _ _ _ _ _ _ _ _ _ _ _ c.requires.slots c.requires.few c.requires.to c.requires.row c.loop-slot.invariant
    (omega arith) (c.requires.used c.loop-slot.slot (omega (arith, c.loop-slot.invariant.count)) c.loop-slot-test.true) c.clear_entry.ensures.row c.clear_entry.ensures.factor c.clear_entry.ensures.cleared c.clear_entry.ensures.added
    (omega arith) (omega arith) (omega arith) (omega arith)
    (c.later.ensures.limit c.args.slots.unknowns (omega (arith, c.loop-slot.invariant.group.end_low)) (omega (arith, its_end)))
