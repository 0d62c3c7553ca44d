use Rattle.std.proofs.Common.{◌∙◌, ap}
use Rattle.poly_maps.specs.Polynomial.{value_at}
use Rattle.poly_maps.proofs.Moves.{value-moved, point_sum_comm}
use Rattle.poly_maps.proofs.moving.moved_value.Goals as goal

pub returns : goal.returns
returns c s y p = value-moved s p y ∙ ap (value_at p) (point_sum_comm s y)
