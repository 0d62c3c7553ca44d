use Rattle.poly_maps.proofs.Pinned.{value-product_of}
use Rattle.poly_maps.proofs.laws.product_value.Goals as goal

pub returns : goal.returns
returns c = value-product_of
