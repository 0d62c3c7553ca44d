use Rattle.std.proofs.Common.{◌+◌, ◌*◌, ◌≡◌, ◌∙◌, ap, sym, length, take, slice_index, refl, arith, length-set}
use Rattle.std.proofs.lemmas.List.{length-map}
use Rattle.poly_maps.specs.Moved.{scaled}
use Rattle.ray_grid.proofs.RayLemmas.{point_more, sum_all, IsPoint-on_ray}
use Rattle.ray_grid.proofs.points.point_at.Goals as goal

pub loop-i-preserved : goal.loop-i-preserved
loop-i-preserved c =
    let i = c.loop-i.i in
    let entry = slice_index c.args.start.now i + c.args.t * slice_index c.args.direction.now i in
    record {
      eight = length-set c.loop-i.entries i entry ∙ c.loop-i.invariant.eight;
      done = point_more i c.args.t entry c.loop-i.entries c.args.start.now c.args.direction.now (omega arith) (omega arith) c.requires.direction_count refl c.loop-i.invariant.done;
    }

pub of-requires : goal.of-requires
of-requires c =
    let start = c.args.start.now in
    let moves = scaled c.args.t c.args.direction.now in
    let last : c.loop-i.i ≡ length start = omega arith in
    let all = sum_all c.loop-i.i c.loop-i.entries start moves (omega arith) (length-map c.args.direction.now (λ a. c.args.t * a) ∙ c.requires.direction_count) c.loop-i.invariant.done in
    IsPoint-on_ray c.args.t (take (length start) c.loop-i.entries) start c.args.direction.now c.requires.some c.requires.few c.requires.direction_count c.requires.t c.requires.start c.requires.direction
    (ap (λ n. take n c.loop-i.entries) (sym last) ∙ all)
