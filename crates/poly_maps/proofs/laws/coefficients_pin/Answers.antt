use Rattle.poly_maps.proofs.Pinned.{same_map}
use Rattle.poly_maps.proofs.laws.coefficients_pin.Goals as goal

pub returns : goal.returns
returns c = λ p q polynomial other same. same_map p q polynomial.0 other.0 same
