use Rattle.std.proofs.Common.{◌≡◌, ap, sym, subst, length, take, arith}
use Rattle.std.proofs.lemmas.List.Elements.{All-same}
use Rattle.prime_field.specs.Modulus.{value_of}
use Rattle.poly_maps.specs.Forcing.{IsForcing}
use Rattle.ray_grid.specs.Attempt.{attempt_points}
use Rattle.ray_grid.specs.Grid.{bound_of}
use Rattle.ray_grid.proofs.Forcing.{attempt_forcing}
use Rattle.ray_grid.proofs.RayLemmas.{AreSmall-attempt, attempt_is, entries-attempt, length-attempt}
use Rattle.ray_grid.proofs.points.attempt.Goals as goal

pub push_rays-requires-clause-small : goal.push_rays-requires-clause-small
push_rays-requires-clause-small c =
    let g = c.args.grid.now in
    AreSmall-attempt g c.args.r (take g.variables c.start_of-start.result) (take g.variables c.first_direction-direction.result) c.requires.grid (omega arith) c.start_of-start.ensures c.first_direction-direction.ensures

points_are : (c : goal.In_ok-push_rays) → c.push_rays.new.points.items ≡ attempt_points c.args.grid.now c.args.r
points_are c =
    let g = c.args.grid.now in
    attempt_is g c.args.r (take g.variables c.start_of-start.result) (take g.variables c.first_direction-direction.result) c.in_ok-points.points.items c.push_rays.new.points.items c.requires.grid
    c.start_of-start.ensures c.first_direction-direction.ensures c.in_ok-points.ensures.items c.in_ok-push_rays.ensures

pub returns-clause-points : goal.returns-clause-points
returns-clause-points c = points_are c

pub returns-clause-count : goal.returns-clause-count
returns-clause-count c = omega (arith, c.push_rays.new.points.ok.0, ap length (points_are c), length-attempt c.args.grid.now c.args.r)

pub returns-clause-forcing : goal.returns-clause-forcing
returns-clause-forcing c = λ m.
    subst (IsForcing (value_of m) (bound_of c.args.grid.now)) (sym (points_are c)) (attempt_forcing m c.args.grid.now c.args.r c.requires.grid)

pub returns-clause-entries : goal.returns-clause-entries
returns-clause-entries c =
    All-same (λ x. length x ≡ c.args.grid.now.variables) c.push_rays.new.points.items (attempt_points c.args.grid.now c.args.r) (points_are c) (entries-attempt c.args.grid.now c.args.r c.requires.grid)
