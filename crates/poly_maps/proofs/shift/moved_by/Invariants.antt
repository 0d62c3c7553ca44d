use Rattle.std.proofs.Common.{◌≡◌, ℕ, ◌%◌, List, take}
use Rattle.prime_field.specs.Modulus.{value_of}
use Rattle.poly_maps.specs.Polynomial.{coefficient, AreResidues}
use Rattle.poly_maps.specs.Moved.{moved}
use Rattle.poly_maps.proofs.shift.moved_by.Given as goal

abbrev pub invariant-loop-i : goal.invariant-loop-i
invariant-loop-i l =
    AreResidues (value_of l.m) l.moved ×
    ((e : List ℕ) → coefficient e l.moved ≡ coefficient e (moved (take l.i l.s) l.terms) % value_of l.m)
