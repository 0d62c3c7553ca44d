use Rattle.std.proofs.Common.{◌≡◌, ℕ, ◌+◌, ◌-◌, ◌<◌, ◌≤◌, ◌^◌, List, ◌∷◌, length, slice_index, get_or, take, drop, sym, ◌∙◌, ap, subst, arith}
use Rattle.std.proofs.lemmas.List.{length-take}
use Rattle.ray_grid.specs.Attempt.{slopes}
use Rattle.ray_grid.specs.Grid.{later_degrees}
use Rattle.ray_grid.proofs.Forcing.{slopes-low}
use Rattle.multivar_recon.specs.Frame.{AreDirectionAxes}
use Rattle.multivar_recon.proofs.Starts.{one_ray, are_first, first_below, direction_is, slopes_are, shift_is, start_below, part_low}
use Rattle.multivar_recon.proofs.ray_frame.ray_frame.Goals as goal

pub difference-direction-requires-clause-lengths : goal.difference-direction-requires-clause-lengths
difference-direction-requires-clause-lengths c =
    let are = are_first (one_ray c.args.grid.now.variables) c.args.r c.in_ok-points.points.items c.index.result.now c.index-2.result.now c.entries-first.result.now c.entries.result.now
    c.in_ok-points.ensures.points c.in_ok-points.ensures.entries c.index.ensures c.index-2.ensures c.entries-first.ensures.value c.entries.ensures.value in
    are.first_count ∙ sym are.second_count

pub difference-direction-requires-clause-order : goal.difference-direction-requires-clause-order
difference-direction-requires-clause-order c =
    first_below c.args.r c.args.grid.now.variables c.entries-first.result.now c.entries.result.now
    (are_first (one_ray c.args.grid.now.variables) c.args.r c.in_ok-points.points.items c.index.result.now c.index-2.result.now c.entries-first.result.now c.entries.result.now
    c.in_ok-points.ensures.points c.in_ok-points.ensures.entries c.index.ensures c.index-2.ensures c.entries-first.ensures.value c.entries.ensures.value)

pub difference-start-requires-clause-lengths : goal.difference-start-requires-clause-lengths
difference-start-requires-clause-lengths c =
    let are = are_first (one_ray c.args.grid.now.variables) c.args.r c.in_ok-points.points.items c.index.result.now c.index-2.result.now c.entries-first.result.now c.entries.result.now
    c.in_ok-points.ensures.points c.in_ok-points.ensures.entries c.index.ensures c.index-2.ensures c.entries-first.ensures.value c.entries.ensures.value in
    omega (arith, length-take c.args.grid.now.variables c.difference-direction.result, are.first_count, c.requires.grid.few)

pub difference-start-requires-clause-order : goal.difference-start-requires-clause-order
difference-start-requires-clause-order c =
    let are = are_first (one_ray c.args.grid.now.variables) c.args.r c.in_ok-points.points.items c.index.result.now c.index-2.result.now c.entries-first.result.now c.entries.result.now
    c.in_ok-points.ensures.points c.in_ok-points.ensures.entries c.index.ensures c.index-2.ensures c.entries-first.ensures.value c.entries.ensures.value in
    start_below c.args.r c.args.grid.now.variables c.entries-first.result.now c.entries.result.now c.difference-direction.result are
    (direction_is c.args.r c.args.grid.now.variables c.entries-first.result.now c.entries.result.now c.difference-direction.result are c.difference-direction.ensures)

pub direction_axes-requires-clause-slopes : goal.direction_axes-requires-clause-slopes
direction_axes-requires-clause-slopes c =
    let v = c.args.grid.now.variables in
    let are = are_first (one_ray c.args.grid.now.variables) c.args.r c.in_ok-points.points.items c.index.result.now c.index-2.result.now c.entries-first.result.now c.entries.result.now
    c.in_ok-points.ensures.points c.in_ok-points.ensures.entries c.index.ensures c.index-2.ensures c.entries-first.ensures.value c.entries.ensures.value in
    let is = slopes_are c.args.r v c.difference-direction.result c.requires.grid.some (omega (arith, c.requires.grid.few))
    (direction_is c.args.r v c.entries-first.result.now c.entries.result.now c.difference-direction.result are c.difference-direction.ensures) in
    λ k. subst (λ (p : List ℕ). slice_index p k < 2 ^ 32) (sym is) (slopes-low c.args.r v k)

pub direction_axes-requires-clause-each : goal.direction_axes-requires-clause-each
direction_axes-requires-clause-each c =
    part_low (c.args.grid.now.variables - 1) 1 c.args.grid.now.each 128 (λ k. omega (arith, c.requires.grid.each k, c.requires.grid.low))

pub returns-clause-start : goal.returns-clause-start
returns-clause-start c =
    let v = c.args.grid.now.variables in
    let are = are_first (one_ray c.args.grid.now.variables) c.args.r c.in_ok-points.points.items c.index.result.now c.index-2.result.now c.entries-first.result.now c.entries.result.now
    c.in_ok-points.ensures.points c.in_ok-points.ensures.entries c.index.ensures c.index-2.ensures c.entries-first.ensures.value c.entries.ensures.value in
    shift_is c.args.r v c.entries-first.result.now c.entries.result.now c.difference-direction.result c.difference-start.result c.of.result (omega (arith, c.requires.grid.few)) are
    (direction_is c.args.r v c.entries-first.result.now c.entries.result.now c.difference-direction.result are c.difference-direction.ensures) c.difference-start.ensures c.of.ensures

pub returns-clause-axes : goal.returns-clause-axes
returns-clause-axes c =
    let v = c.args.grid.now.variables in
    let are = are_first (one_ray c.args.grid.now.variables) c.args.r c.in_ok-points.points.items c.index.result.now c.index-2.result.now c.entries-first.result.now c.entries.result.now
    c.in_ok-points.ensures.points c.in_ok-points.ensures.entries c.index.ensures c.index-2.ensures c.entries-first.ensures.value c.entries.ensures.value in
    let is = slopes_are c.args.r v c.difference-direction.result c.requires.grid.some (omega (arith, c.requires.grid.few))
    (direction_is c.args.r v c.entries-first.result.now c.entries.result.now c.difference-direction.result are c.difference-direction.ensures) in
    subst (λ (p : List ℕ). AreDirectionAxes 2 p (later_degrees c.args.grid.now) c.in_ok-axes.axes.items) is c.in_ok-axes.ensures
