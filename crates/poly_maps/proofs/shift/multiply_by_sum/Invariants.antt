use Rattle.prime_field.specs.Modulus.{value_of}
use Rattle.poly_maps.proofs.Expanding.{IsMultiplied}
use Rattle.poly_maps.proofs.shift.multiply_by_sum.Given as goal

abbrev pub invariant-loop-entry : goal.invariant-loop-entry
invariant-loop-entry l = IsMultiplied (value_of l.m) l.a l.below l.entry-index l.row l.fn.row
