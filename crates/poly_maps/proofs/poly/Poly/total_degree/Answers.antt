use Rattle.std.proofs.Common.{ap, ◌∙◌}
use Rattle.poly_maps.specs.Polynomial.{total_degree}
use Rattle.poly_maps.proofs.Terms.{total_degree-first}
use Rattle.poly_maps.proofs.poly.Poly.total_degree.Goals as goal

pub returns-in-Some : goal.returns-in-Some
returns-in-Some c =
    let first = rw c.deref.ensures.value at c.in-Some.ensures in
    c.total.ensures ∙ total_degree-first c.self.inside.terms.items c.in-Some.term.now c.self.invariant.0 first.value ∙ ap total_degree c.self.view_is
