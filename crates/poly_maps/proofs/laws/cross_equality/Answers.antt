use Rattle.std.proofs.Common.{refl, sym}
use Rattle.poly_maps.proofs.Pairs.{agrees_too}
use Rattle.poly_maps.proofs.laws.cross_equality.Goals as goal

pub returns-clause-itself : goal.returns-clause-itself
returns-clause-itself c m f e = refl

pub returns-clause-back : goal.returns-clause-back
returns-clause-back c m f g cross e = sym (cross e)

pub returns-clause-agrees : goal.returns-clause-agrees
returns-clause-agrees c m f g xs vs cross units agrees = agrees_too m f g cross xs vs units agrees
