use Rattle.poly_maps.proofs.Linear.{value-alike}
use Rattle.poly_maps.proofs.laws.congruent_values.Goals as goal

pub returns : goal.returns
returns c = value-alike
