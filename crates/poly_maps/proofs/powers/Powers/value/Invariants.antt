use Rattle.std.proofs.Common.{◌≡◌, ◌*◌, ◌<◌, ◌%◌, drop}
use Rattle.prime_field.specs.Modulus.{value_of}
use Rattle.poly_maps.specs.Mono.{mono_value}
use Rattle.poly_maps.proofs.powers.Powers.value.Given as goal

abbrev pub invariant-loop-i : goal.invariant-loop-i
invariant-loop-i l =
    (l.product < value_of l.self.modulus) × ((l.product * mono_value (drop l.i l.exponents) (drop l.i l.self.bases)) % value_of l.self.modulus ≡ mono_value l.exponents l.self.bases % value_of l.self.modulus)
