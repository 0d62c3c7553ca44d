use Rattle.std.proofs.Common.{◌≡◌, get_or, ap, ◌∙◌, arith}
use Rattle.poly_maps.specs.Mono.{degree, mono_product}
use Rattle.poly_maps.proofs.MonoLemmas.{get_or-degree, mono_product_by_places}
use Rattle.poly_maps.proofs.mono.Mono.times.Goals as goal

pub overflow_add-exponents : goal.overflow_add-exponents
overflow_add-exponents c =
    let i = c.loop-i.i in
    let here : get_or c.loop-i.exponents i 0 ≡ get_or c.self.inside.exponents i 0 = c.loop-i.invariant.rest i (omega arith) in
    omega (arith, here, get_or-degree c.self.inside.exponents i, get_or-degree c.other.inside.exponents i, ap degree c.self.view_is, ap degree c.other.view_is, c.requires)

pub returns : goal.returns
returns c =
    let product = mono_product_by_places c.loop-i.exponents c.self.inside.exponents c.other.inside.exponents (omega arith) (omega arith) (λ k low.
    c.loop-i.invariant.done k (omega arith)) in
    product ∙ ap (λ e. mono_product e c.other.inside.exponents) c.self.view_is ∙ ap (mono_product c.args.self.now) c.other.view_is
