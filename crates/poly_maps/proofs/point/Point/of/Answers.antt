use Rattle.poly_maps.proofs.PointLemmas.{IsStored-written}
use Rattle.poly_maps.proofs.point.Point.of.Goals as goal

pub invariant_of-result : goal.invariant_of-result
invariant_of-result c = IsStored-written c.copy_from_slice.new.self c.args.entries.now c.copy_from_slice.ensures.after c.requires
