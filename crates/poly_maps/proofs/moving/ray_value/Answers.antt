use Rattle.poly_maps.proofs.Rays.{ray_values}
use Rattle.poly_maps.proofs.moving.ray_value.Goals as goal

pub returns : goal.returns
returns c = ray_values
