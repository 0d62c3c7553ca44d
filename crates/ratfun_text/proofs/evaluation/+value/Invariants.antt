-- Going on from what has been taken in with the parts that are left gives the value of the whole.
use Rattle.std.proofs.Common.{◌≡◌, ◌<◌, All, drop}
use Rattle.ratfun_text.specs.Powers.{IsPower}
use Rattle.ratfun_text.specs.Value.{sum_from, product_from, valued}
use Rattle.ratfun_text.proofs.Quotients.{going_on}
use Rattle.ratfun_text.proofs.evaluation.+value.Given as goal

abbrev pub invariant-product_from-loop-index : goal.invariant-product_from-loop-index
invariant-product_from-loop-index g l = let m = g.F.Field.modulus in record {
  same : product_from m l.product (valued m l.args (drop l.index l.parts)) ≡ product_from m l.start (valued m l.args (drop l.from l.parts));
  low : l.product < m;
  kept : All (IsPower m l.args) l.kept;
}

abbrev pub invariant-quotient_from-loop-index : goal.invariant-quotient_from-loop-index
invariant-quotient_from-loop-index g l = let m = g.F.Field.modulus in record {
  same : going_on m l.above l.below (valued m l.args (drop l.index l.parts)) ≡ product_from m l.start (valued m l.args (drop l.from l.parts));
  above_low : l.above < m;
  below_low : l.below < m;
  kept : All (IsPower m l.args) l.kept;
}

abbrev pub invariant-sum_from-loop-index : goal.invariant-sum_from-loop-index
invariant-sum_from-loop-index g l = let m = g.F.Field.modulus in record {
  same : sum_from m l.sum (valued m l.args (drop l.index l.parts)) ≡ sum_from m l.start (valued m l.args (drop l.from l.parts));
  low : l.sum < m;
  kept : All (IsPower m l.args) l.kept;
}
