use Rattle.std.proofs.Common.{◌≡◌, take, length}
use Rattle.prime_field.specs.Modulus.{value_of}
use Rattle.poly_maps.specs.Shifted.{negatives}
use Rattle.poly_maps.proofs.shift.negated.Given as goal

abbrev pub invariant-loop-i : goal.invariant-loop-i
invariant-loop-i l = (length l.all ≡ 8) × (take l.i l.all ≡ negatives (value_of l.m) (take l.i l.entries))
