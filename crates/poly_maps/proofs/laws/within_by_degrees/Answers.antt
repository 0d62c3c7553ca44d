use Rattle.poly_maps.proofs.Within.{within_by_degrees}
use Rattle.poly_maps.proofs.laws.within_by_degrees.Goals as goal

pub returns : goal.returns
returns c = λ b p long polynomial. within_by_degrees b p long polynomial.1
