-- The greatest place so far and those of the parts that are left give the greatest of all.
use Rattle.std.proofs.Common.{◌≡◌, max, drop}
use Rattle.ratfun_text.specs.Value.{greatest_of, placed}
use Rattle.ratfun_text.proofs.expr.Expr.+greatest.Given as goal

abbrev pub invariant-loop-part : goal.invariant-loop-part
invariant-loop-part l = max l.greatest (greatest_of (placed (drop l.part-index l.part-items))) ≡ greatest_of (placed l.part-items)
