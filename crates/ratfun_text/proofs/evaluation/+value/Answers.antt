use Rattle.std.proofs.Common.{◌≡◌, ◌+◌, ◌*◌, ◌%◌, ◌<◌, ◌∷◌, Some, drop, length, rules, sym, ap, ◌∙◌, arith}
use Rattle.ratfun_text.specs.Value.{sum_from, product_from, valued}
use Rattle.ratfun_text.proofs.Trees.{sum_started}
use Rattle.ratfun_text.proofs.Quotients.{product_started, going_on, going_on-start, going_on-next, going_on-factor, going_on-divisor}
use Rattle.ratfun_text.proofs.evaluation.+value.Goals.{quotient_from-then-over, quotient_from-else-over}
use Rattle.ratfun_text.proofs.evaluation.+value.Goals as goal

pub quotient_from-loop-index-init : goal.quotient_from-loop-index-init
quotient_from-loop-index-init g t c = let m = g.F.Field.modulus in let large = g.met.F.Field.large in record {
  same = going_on-start m c.args.start (valued m c.args.args.now (drop c.args.from c.args.parts.now)) large c.requires.start;
  above_low = c.requires.start;
  below_low = large;
  kept = c.requires.kept;
}

pub quotient_from-loop-index-preserved : goal.quotient_from-loop-index-preserved
quotient_from-loop-index-preserved g t c =
    let m = g.F.Field.modulus in
    let part = c.index-parts-index.result in
    let above = c.loop-index.above in
    let below = c.loop-index.below in
    let v = c.in_ok-value.value in
    let parts = c.args.parts.now in
    let i = c.loop-index.index in
    let rest = valued m c.args.args.now (drop (i + 1) parts) in
    let next : going_on m above below (valued m c.args.args.now (drop i parts)) ≡ going_on m above below ((part.0, Some v) ∷ rest) = going_on-next m c.args.args.now parts i part above below v c.loop-index-test.true c.index-parts-index.is (sym c.value.ensures.value ∙ c.in_ok-value.was) in
    let so_far : going_on m above below ((part.0, Some v) ∷ rest) ≡ product_from m c.args.start (valued m c.args.args.now (drop c.args.from parts)) = sym next ∙ c.loop-index.invariant.same in
    elim c.if-over.branch [
      | quotient_from-then-over w ↦ record {
        same = ap (λ n. going_on m n c.if-over.below rest) w.above-is ∙ ap (λ n. going_on m above n rest) (w.below-is ∙ w.mul-below.ensures.product)
            ∙ sym (going_on-divisor m above below v rest) ∙ ap (λ b. going_on m above below ((b, Some v) ∷ rest)) (sym w.if-over.true) ∙ so_far;
        above_low = omega (arith, w.above-is, c.loop-index.invariant.above_low);
        below_low = omega (arith, w.below-is, w.mul-below.ensures.residue);
        kept = c.value.ensures.kept;
      }
      | quotient_from-else-over w ↦ record {
        same = ap (λ n. going_on m n c.if-over.below rest) (w.above-is ∙ w.mul-above.ensures.product) ∙ ap (λ n. going_on m ((above * v) % m) n rest) w.below-is
            ∙ sym (going_on-factor m above below v rest) ∙ ap (λ b. going_on m above below ((b, Some v) ∷ rest)) (sym w.if-over.false) ∙ so_far;
        above_low = omega (arith, w.above-is, w.mul-above.ensures.residue);
        below_low = omega (arith, w.below-is, c.loop-index.invariant.below_low);
        kept = c.value.ensures.kept;
      }
    ]

pub product-returns-clause-value : goal.product-returns-clause-value
product-returns-clause-value g t c =
    let some : 0 < length c.args.parts.now = search rules in
    c.product_from.ensures.value ∙ product_started g.F.Field.modulus c.args.args.now c.args.parts.now c.index-parts-0.result c.in_ok-start.start some c.index-parts-0.is c.if-over.false
    (sym c.value.ensures.value ∙ c.in_ok-start.was) c.in_ok-start.ensures.residue

pub sum-returns-clause-value : goal.sum-returns-clause-value
sum-returns-clause-value g t c =
    let m = g.F.Field.modulus in
    let parts = c.args.parts.now in
    let some : 0 < length parts = search rules in
    c.sum_from.ensures.value ∙ ap (λ n. sum_from m n (valued m c.args.args.now (drop 1 parts))) c.with_sign-start.ensures.signed
    ∙ sum_started m c.args.args.now parts c.index-parts-0.result c.in_ok-value.value some c.index-parts-0.is (sym c.value.ensures.value ∙ c.in_ok-value.was)
