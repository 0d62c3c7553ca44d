use Rattle.poly_maps.proofs.PinnedLists.{same_trimmed}
use Rattle.poly_maps.proofs.laws.entries_pin.Goals as goal

pub returns : goal.returns
returns c = same_trimmed
