use Rattle.std.proofs.Common.{◌≡◌}
use Rattle.poly_maps.proofs.Enumerated.{up_to}
use Rattle.poly_maps.proofs.enumeration.monomials.Given as goal

abbrev pub invariant-loop-degree : goal.invariant-loop-degree
invariant-loop-degree l = l.found.items ≡ up_to l.each l.degree
