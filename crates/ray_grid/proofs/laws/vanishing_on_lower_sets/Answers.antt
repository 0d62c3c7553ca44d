use Rattle.std.specs.Prelude.{IsTrue}
use Rattle.poly_maps.specs.Bound.{WithinBound}
use Rattle.poly_maps.specs.Mono.{IsBelow}
use Rattle.poly_maps.proofs.Moves.{WithinBound-lower}
use Rattle.ray_grid.proofs.Vanishing.{lower_vanishing, IsBelow-lower}
use Rattle.ray_grid.proofs.laws.vanishing_on_lower_sets.Goals as goal

pub returns-clause-lower : goal.returns-clause-lower
returns-clause-lower c m axes tops test p = lower_vanishing m axes tops (λ e. IsTrue (test e)) p

pub returns-clause-bound : goal.returns-clause-bound
returns-clause-bound c m axes b p apart = lower_vanishing m axes b.each (WithinBound b) p apart (WithinBound-lower b) (λ e within. within.1)

pub returns-clause-product : goal.returns-clause-product
returns-clause-product c m axes tops p apart = lower_vanishing m axes tops (λ e. IsBelow e tops) p apart (IsBelow-lower tops) (λ e below. below)
