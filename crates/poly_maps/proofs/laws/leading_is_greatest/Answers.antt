use Rattle.poly_maps.proofs.Pinned.{leading_some, leading_greatest}
use Rattle.poly_maps.proofs.laws.leading_is_greatest.Goals as goal

pub returns-clause-some : goal.returns-clause-some
returns-clause-some c = λ p e polynomial is. leading_some p e polynomial.0 is

pub returns-clause-greatest : goal.returns-clause-greatest
returns-clause-greatest c = λ p e f polynomial is some. leading_greatest p e f polynomial.0 is some
