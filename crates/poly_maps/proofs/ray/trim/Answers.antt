use Rattle.std.proofs.Common.{◌≡◌, ◌-◌, ℕ, List, length, get_or, ap, sym, ◌∙◌, arith}
use Rattle.poly_maps.proofs.Rays.{get_or-take_zero}
use Rattle.poly_maps.proofs.ray.trim.Goals as goal

pub loop-coefficients-preserved : goal.loop-coefficients-preserved
loop-coefficients-preserved c k =
    let items : List ℕ = c.loop-coefficients.coefficients.items in
    let n : ℕ = c.loop-coefficients.coefficients.len - 1 in
    let long : length items ≡ c.loop-coefficients.coefficients.len = ap length (sym c.deref.ensures.value) ∙ c.deref.ensures.len in
    let last : get_or items n 0 ≡ 0 =
    ap (λ j. get_or items (j - 1) 0) (sym long) ∙ ap (λ x. get_or x (length x - 1) 0) (sym c.deref.ensures.value) ∙
    sym (c.in-Some-eq0.ensures.item.4 (omega arith) 0) ∙ c.in-Some-eq0.field-0-test in
    ap (λ x. get_or x k 0) c.pop.ensures.rest ∙ get_or-take_zero items n k (omega arith) last ∙ c.loop-coefficients.invariant k
