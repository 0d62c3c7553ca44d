-- What is left to multiply gives the power of the whole.
use Rattle.std.proofs.Common.{◌≡◌, ◌*◌, ◌%◌, ◌^◌, ◌<◌}
use Rattle.ratfun_text.proofs.arithmetic.pow.Given as goal

abbrev pub invariant-loop-rest : goal.invariant-loop-rest
invariant-loop-rest g l = let m = g.F.Field.modulus in record {
  power_low : l.power < m;
  square_low : l.square < m;
  same : (l.power * l.square ^ l.rest) % m ≡ (l.a ^ l.e) % m;
}

abbrev pub decreases-loop-rest : goal.decreases-loop-rest
decreases-loop-rest g l = l.rest
