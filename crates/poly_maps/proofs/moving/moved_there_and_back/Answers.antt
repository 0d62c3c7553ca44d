use Rattle.poly_maps.proofs.Moves.{moved_forth, moved_back}
use Rattle.poly_maps.proofs.moving.moved_there_and_back.Goals as goal

pub returns-clause-forth : goal.returns-clause-forth
returns-clause-forth c m s p eight low = moved_forth m 8 s p eight low

pub returns-clause-back : goal.returns-clause-back
returns-clause-back c m s p eight low = moved_back m 8 s p eight low
