use Rattle.std.proofs.Common.{◌+◌, ◌*◌, ◌<◌, length, slice_index, slice_range, arith}
use Rattle.ray_grid.specs.Grid.{choices}
use Rattle.ray_grid.proofs.RayLemmas.{choices_more, choices-many}
use Rattle.ray_grid.proofs.grid.size.Goals as goal

pub returns-then-count-gt-MOST_POINTS-clause-many : goal.returns-then-count-gt-MOST_POINTS-clause-many
returns-then-count-gt-MOST_POINTS-clause-many c =
    let g = c.args.grid.now in
    let later = slice_range g.each 1 g.variables in
    let i = c.loop-degree.degree-index in
    let low : i < length later = omega arith in
    choices-many (c.loop-degree.count * (slice_index later i + 1)) ((g.total + 3) * choices later) later (i + 1)
    (choices_more c.loop-degree.count ((g.total + 3) * choices later) later i low c.loop-degree.invariant.so_far) (omega arith)

pub loop-degree-preserved : goal.loop-degree-preserved
loop-degree-preserved c =
    let g = c.args.grid.now in
    let later = slice_range g.each 1 g.variables in
    let i = c.loop-degree.degree-index in
    let low : i < length later = omega arith in
    record {
      few = omega arith;
      so_far = choices_more c.loop-degree.count ((g.total + 3) * choices later) later i low c.loop-degree.invariant.so_far;
    }
