use Rattle.std.proofs.Common.{◌≡◌, ℕ, List, IfNone, IfOk, sym, ◌∙◌, subst}
use Rattle.prime_field.specs.Modulus.{value_of}
use Rattle.poly_maps.specs.declared.pair.Pair.{Pair}
use Rattle.poly_maps.specs.Forcing.{IsForcing}
use Rattle.ray_grid.specs.Attempt.{attempt_points}
use Rattle.ray_grid.specs.Grid.{bound_of}
use Rattle.multivar_recon.specs.Least.{IsAgreeing}
use Rattle.multivar_recon.proofs.pairs.fit.Goals as goal

pub returns-clause-none : goal.returns-clause-none
returns-clause-none c prime =
    let m = value_of c.args.m in
    let grid = bound_of c.args.grid.now in
    let points : c.deref.result.now ≡ attempt_points c.args.grid.now c.args.r = c.deref.ensures.value ∙ c.in_ok-points.ensures.points in
    subst (λ (xs : List (List ℕ)). IfOk c.fit_points.result (λ found. IfNone found ((f : Pair) → IsAgreeing m c.args.bounds.now xs c.args.values.now f → ⊥))) points
    (c.fit_points.ensures.none grid c.requires.covers
    (subst (λ (xs : List (List ℕ)). IsForcing m grid xs) (sym c.deref.ensures.value) (c.in_ok-points.ensures.forcing c.args.m)) prime)
