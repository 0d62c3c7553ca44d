use Rattle.poly_maps.proofs.Terms.{coefficient-append, value_at-append}
use Rattle.poly_maps.proofs.laws.sums.Goals as goal

pub returns-clause-coefficients : goal.returns-clause-coefficients
returns-clause-coefficients c = coefficient-append

pub returns-clause-values : goal.returns-clause-values
returns-clause-values c = value_at-append
