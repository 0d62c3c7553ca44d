use Rattle.std.proofs.Common.{◌↔◌, drop}
use Rattle.poly_maps.specs.Mono.{IsBelow}
use Rattle.poly_maps.proofs.bound.are_below.Given as goal

abbrev pub invariant-loop-i : goal.invariant-loop-i
invariant-loop-i l = IsBelow (drop l.i l.exponents) (drop l.i l.each) ↔ IsBelow l.exponents l.each
