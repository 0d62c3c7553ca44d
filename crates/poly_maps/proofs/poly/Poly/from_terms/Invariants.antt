use Rattle.std.proofs.Common.{◌≡◌, ℕ, ◌%◌, List, take}
use Rattle.prime_field.specs.Modulus.{value_of}
use Rattle.poly_maps.specs.Polynomial.{coefficient, AreResidues}
use Rattle.poly_maps.proofs.poly.Poly.from_terms.Given as goal

abbrev pub invariant-loop-term : goal.invariant-loop-term
invariant-loop-term l =
    AreResidues (value_of l.m) l.sum × ((e : List ℕ) → coefficient e l.sum ≡ coefficient e (take l.term-index l.term-items) % value_of l.m)
