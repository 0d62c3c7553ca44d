use Rattle.std.proofs.Common.{◌≡◌, ◌*◌, ◌%◌, ◌++◌, drop}
use Rattle.prime_field.specs.Modulus.{value_of}
use Rattle.poly_maps.specs.Expansion.{spread}
use Rattle.poly_maps.proofs.shift.push_spread.Given as goal

abbrev pub invariant-loop-j : goal.invariant-loop-j
invariant-loop-j l =
    l.out.items ++ spread (λ r. (l.term.1 * r) % value_of l.m) l.term.0 l.i l.j (drop l.j l.row) ≡
    l.initial.out.items ++ spread (λ r. (l.term.1 * r) % value_of l.m) l.term.0 l.i 0 l.row
