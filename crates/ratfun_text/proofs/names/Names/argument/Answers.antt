use Rattle.ratfun_text.proofs.names.Names.argument.Goals as goal

pub returns-in-Listed : goal.returns-in-Listed
returns-in-Listed c = rw c.in-Listed.is (rw (← c.as_slice.ensures) c.place.ensures)
