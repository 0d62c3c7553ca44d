use Rattle.std.proofs.Common.{drop}
use Rattle.prime_field.specs.Modulus.{value_of}
use Rattle.poly_maps.specs.Expansion.{IsPowerRow, AreMoved}
use Rattle.poly_maps.proofs.shift.moved_terms.Given as goal

abbrev pub invariant-loop-n : goal.invariant-loop-n
invariant-loop-n l = IsPowerRow (value_of l.m) l.a l.row.items × AreMoved (value_of l.m) l.i l.a (drop l.n l.terms) l.out.items
