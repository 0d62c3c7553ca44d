use Rattle.poly_maps.proofs.Fractions.{same_fractions}
use Rattle.poly_maps.proofs.laws.fractions_pin.Goals as goal

pub returns : goal.returns
returns c = λ p q rational other same. same_fractions p q rational.descends other.descends same
