use Rattle.std.proofs.Common.{◌≡◌, ◌%◌, take}
use Rattle.prime_field.specs.Modulus.{value_of}
use Rattle.poly_maps.specs.Polynomial.{value_at}
use Rattle.poly_maps.proofs.poly.Poly.value.Given as goal

abbrev pub invariant-loop-term : goal.invariant-loop-term
invariant-loop-term l = l.sum ≡ value_at (take l.term-index l.term-items) l.point % value_of l.m
