use Rattle.std.specs.Prelude.{IsTrue}
use Rattle.poly_maps.specs.Bound.{WithinBound}
use Rattle.poly_maps.proofs.Moves.{Supported-moved, WithinBound-lower}
use Rattle.poly_maps.proofs.moving.moved_degrees.Goals as goal

pub returns-clause-bound : goal.returns-clause-bound
returns-clause-bound c b s p within = Supported-moved (WithinBound b) s p (WithinBound-lower b) within

pub returns-clause-lower : goal.returns-clause-lower
returns-clause-lower c test s p lower all = Supported-moved (λ e. IsTrue (test e)) s p lower all
