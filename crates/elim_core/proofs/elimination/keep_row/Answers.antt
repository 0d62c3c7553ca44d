use Rattle.prime_field.proofs.Moduli.{value_of-large}
use Rattle.elim_core.proofs.Turns.{written, written-laid_out, written-keeps_used, written-inserted}
use Rattle.elim_core.proofs.elimination.keep_row.Goals as goal

pub returns-in-Some-clause-laid_out : goal.returns-in-Some-clause-laid_out
returns-in-Some-clause-laid_out c =
    written-laid_out _ _ _ _ _ _ _ _ _ (value_of-large c.args.modulus) c.requires.laid_out c.requires.residues c.requires.lead c.in-Some.ensures.inverse
    (written _ _ _ _ _ _ _ _ _ _ c.requires.laid_out.rows_room c.requires.laid_out.ends_room c.requires.lead.within c.requires.lead.end_within
    c.write_span.ensures.room c.write_span.ensures.inside c.write_span.ensures.before c.write_span.ensures.after c.mul.ensures.product)

pub returns-in-Some-clause-keeps_used : goal.returns-in-Some-clause-keeps_used
returns-in-Some-clause-keeps_used c =
    written-keeps_used _ _ _ _ _ _ _ _ _ (value_of-large c.args.modulus) c.requires.laid_out c.requires.residues c.requires.lead c.in-Some.ensures.inverse
    (written _ _ _ _ _ _ _ _ _ _ c.requires.laid_out.rows_room c.requires.laid_out.ends_room c.requires.lead.within c.requires.lead.end_within
    c.write_span.ensures.room c.write_span.ensures.inside c.write_span.ensures.before c.write_span.ensures.after c.mul.ensures.product)

pub returns-in-Some-clause-kept : goal.returns-in-Some-clause-kept
returns-in-Some-clause-kept c =
    written-inserted _ _ _ _ _ _ _ _ _ (value_of-large c.args.modulus) c.requires.laid_out c.requires.residues c.requires.lead c.in-Some.ensures.inverse
    (written _ _ _ _ _ _ _ _ _ _ c.requires.laid_out.rows_room c.requires.laid_out.ends_room c.requires.lead.within c.requires.lead.end_within
    c.write_span.ensures.room c.write_span.ensures.inside c.write_span.ensures.before c.write_span.ensures.after c.mul.ensures.product)
