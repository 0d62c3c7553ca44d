use Rattle.std.proofs.Common.{arith}
use Rattle.elim_core.proofs.Entries.{entry-own}
use Rattle.elim_core.proofs.Added.{added-cleared}
use Rattle.elim_core.proofs.group.clear_entry.Goals as goal

pub returns-clause-added : goal.returns-clause-added
returns-clause-added g c =
    added-cleared _ _ _ _ _ _ _ _ c.requires.row c.requires.slot (omega arith) (omega (arith, c.value.ensures))
    (entry-own c.args.slots.unknowns c.args.slots.rows.now c.args.slots.ends.now c.args.slot c.requires.used) c.add_row.ensures.added
