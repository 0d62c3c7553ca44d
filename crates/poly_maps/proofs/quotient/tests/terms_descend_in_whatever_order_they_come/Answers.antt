use Rattle.std.proofs.Common.{arith, refl, negsuc, pos, ◌∙◌}
use Rattle.poly_maps.proofs.Fractions.{whole_fraction, part_fraction}
use Rattle.poly_maps.proofs.quotient.tests.terms_descend_in_whatever_order_they_come.Goals as goal

pub add_term-requires-clause-fraction : goal.add_term-requires-clause-fraction
add_term-requires-clause-fraction g c = whole_fraction (negsuc 2) (λ e. omega (arith, e))

pub add_term-requires-2-clause-absent : goal.add_term-requires-2-clause-absent
add_term-requires-2-clause-absent g c =
    c.in_ok-add_term.ensures.ok c.power-2.result ∙ (rw (c.power.ensures, c.power-2.ensures, c.zero-num.ensures) refl)

pub add_term-requires-2-clause-fraction : goal.add_term-requires-2-clause-fraction
add_term-requires-2-clause-fraction g c = part_fraction (pos 1) 2 refl (omega arith)
