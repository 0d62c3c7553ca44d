use Rattle.std.proofs.Common.{◌%◌, ℕ, List, ap, subst, ◌∙◌}
use Rattle.prime_field.specs.Modulus.{value_of}
use Rattle.poly_maps.specs.Polynomial.{value_at}
use Rattle.poly_maps.specs.Moved.{moved, graded}
use Rattle.poly_maps.specs.Shifted.{IsMoved}
use Rattle.poly_maps.proofs.Moves.{IsMoved-alike}
use Rattle.poly_maps.proofs.Rays.{graded-alike, ray_values, length-ray}
use Rattle.poly_maps.proofs.poly.Poly.on_ray.Goals as goal

pub returns-clause-coefficients : goal.returns-clause-coefficients
returns-clause-coefficients c k =
    let m : ℕ = value_of c.args.m in
    let is : IsMoved m c.args.s.now c.args.self.now c.in_ok-moved.moved =
    subst (λ (s : List ℕ). IsMoved m s c.args.self.now c.in_ok-moved.moved) c.entries.ensures.value
    (subst (λ (p : List (List ℕ × ℕ)). IsMoved m c.entries.result.now p c.in_ok-moved.moved) c.terms.ensures.same c.in_ok-moved.ensures) in
    c.trim.ensures.same k ∙ c.in_ok-coefficients.ensures k ∙
    ap (λ p. value_at (graded k p) c.args.g.now % m) c.terms-2.ensures.same ∙
    graded-alike m k c.in_ok-moved.moved (moved c.args.s.now c.args.self.now) c.args.g.now (IsMoved-alike m c.args.s.now c.args.self.now c.in_ok-moved.moved is)

pub returns-clause-value : goal.returns-clause-value
returns-clause-value c =
    ray_values (value_of c.args.m) c.args.self.now c.args.s.now c.args.g.now c.trim.new.coefficients.items (returns-clause-coefficients c)

pub returns-clause-degree : goal.returns-clause-degree
returns-clause-degree c =
    length-ray (value_of c.args.m) c.args.self.now c.args.s.now c.args.g.now c.trim.new.coefficients.items c.trim.ensures.trimmed (returns-clause-coefficients c)
