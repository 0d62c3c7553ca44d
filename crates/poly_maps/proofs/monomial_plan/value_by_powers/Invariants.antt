use Rattle.std.proofs.Common.{◌≡◌, ◌*◌, ◌<◌, ◌%◌, drop}
use Rattle.prime_field.specs.Modulus.{value_of}
use Rattle.poly_maps.specs.Mono.{mono_value}
use Rattle.poly_maps.proofs.monomial_plan.value_by_powers.Given as goal

abbrev pub invariant-loop-i : goal.invariant-loop-i
invariant-loop-i l =
    (l.product < value_of l.m) × ((l.product * mono_value (drop l.i l.exponents) (drop l.i l.entries)) % value_of l.m ≡ mono_value l.exponents l.entries % value_of l.m)
