use Rattle.std.proofs.Common.{◌≡◌, ◌+◌, ◌*◌, ◌≤◌, drop}
use Rattle.ray_grid.specs.Grid.{choices}
use Rattle.ray_grid.proofs.grid.size.Given as goal

abbrev pub invariant-loop-degree : goal.invariant-loop-degree
invariant-loop-degree l = record {
  few : l.count ≤ 65536;
  so_far : l.count * choices (drop l.degree-index l.degree-items) ≡ (l.grid.total + 3) * choices l.degree-items;
}
