use Rattle.std.proofs.Common.{ap, ◌∙◌}
use Rattle.poly_maps.specs.Polynomial.{coefficient}
use Rattle.poly_maps.proofs.Adding.{coefficient-there, coefficient-absent}
use Rattle.poly_maps.proofs.Terms.{IsNormal-descends}
use Rattle.poly_maps.proofs.poly.Poly.coefficient.Goals as goal

pub place-requires : goal.place-requires
place-requires c = rw c.deref.ensures.value (IsNormal-descends c.self.inside.terms.items c.self.invariant.0)

pub returns-in-Ok : goal.returns-in-Ok
returns-in-Ok c =
    let there = rw c.deref.ensures.value at c.in-Ok.ensures in
    ap (λ t. t.1) c.index.ensures ∙ coefficient-there c.self.inside.terms.items c.args.mono c.in-Ok.place c.index.result.now c.self.invariant.0 there.there ∙ ap (coefficient c.args.mono) c.self.view_is

pub returns-in-Err : goal.returns-in-Err
returns-in-Err c =
    let belongs = rw c.deref.ensures.value at c.in-Err.ensures in
    coefficient-absent c.self.inside.terms.items c.args.mono c.in-Err.field-0 belongs.belongs ∙ ap (coefficient c.args.mono) c.self.view_is
