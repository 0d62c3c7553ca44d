use Rattle.std.proofs.Common.{◌↔◌, drop}
use Rattle.poly_maps.specs.Bound.{IsWithin}
use Rattle.poly_maps.proofs.poly.Poly.within.Given as goal

abbrev pub invariant-loop-term : goal.invariant-loop-term
invariant-loop-term l = IsWithin l.bound (drop l.term-index l.term-items) ↔ IsWithin l.bound l.term-items
