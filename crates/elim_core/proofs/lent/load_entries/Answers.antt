use Rattle.std.proofs.Common.{◌∙◌, arith}
use Rattle.prime_field.proofs.Moduli.{value_of-large}
use Rattle.elim_core.proofs.EntryRows.{entries_row, entries_residues, entries_span}
use Rattle.elim_core.proofs.Lists.{work-parts}
use Rattle.elim_core.proofs.lent.load_entries.Goals as goal

pub returns-clause-work : goal.returns-clause-work
returns-clause-work c =
    work-parts c.args.unknowns c.split_at_mut-rest.result.0.now c.split_at_mut-rest-2.result.0.now c.write_entries.new.work c.split_at_mut-work.result.1.now
    c.split_at_mut-rest.ensures.front_len c.split_at_mut-rest-2.ensures.front_len c.write_entries.ensures.room ∙
    entries_row 0 c.args.unknowns c.write_entries.new.work c.args.columns.now c.args.values.now c.requires.ascending c.requires.lengths c.requires.columns c.write_entries.ensures

pub returns-clause-residues : goal.returns-clause-residues
returns-clause-residues c =
    entries_residues _ _ _ _ _ c.requires.ascending c.requires.lengths c.requires.columns c.write_entries.ensures
    (omega (arith, value_of-large c.args.modulus)) c.requires.residues

pub returns-clause-span : goal.returns-clause-span
returns-clause-span c =
    entries_span 0 _ _ _ _ c.requires.ascending c.requires.lengths c.requires.columns c.write_entries.ensures
    _ _ c.first_place.ensures.first c.last_column.ensures.last (omega (arith, c.first_place.ensures.within c.args.unknowns c.requires.columns))
