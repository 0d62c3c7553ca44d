use Rattle.std.proofs.Common.{◌≡◌, ◌*◌, ◌%◌, ◌^◌, ◌<◌}
use Rattle.prime_field.specs.Modulus.{value_of}
use Rattle.prime_field.proofs.Modulus.pow.Given as goal

abbrev pub invariant-loop-rest : goal.invariant-loop-rest
invariant-loop-rest l = record {
  power_low : l.power < value_of l.self;
  square_low : l.square < value_of l.self;
  same : (l.power * l.square ^ l.rest) % value_of l.self ≡ (l.a ^ l.e) % value_of l.self;
}

abbrev pub decreases-loop-rest : goal.decreases-loop-rest
decreases-loop-rest l = l.rest
