use Rattle.std.proofs.Common.{◌∙◌, arith}
use Rattle.std.proofs.lemmas.List.{length-set}
use Rattle.prime_field.specs.Modulus.{value_of}
use Rattle.poly_maps.proofs.Expanding.{negatives-more}
use Rattle.poly_maps.proofs.shift.negated.Goals as goal

pub loop-i-preserved : goal.loop-i-preserved
loop-i-preserved c = (
  length-set c.loop-i.all c.loop-i.i c.neg.result ∙ c.loop-i.invariant.0,
  negatives-more (value_of c.args.m) c.loop-i.i c.neg.result c.loop-i.all c.args.entries.now (omega arith) (omega arith) c.neg.ensures.negative c.loop-i.invariant.1,
)
