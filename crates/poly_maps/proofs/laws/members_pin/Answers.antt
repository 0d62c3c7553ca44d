use Rattle.poly_maps.proofs.PinnedLists.{same_members}
use Rattle.poly_maps.proofs.laws.members_pin.Goals as goal

pub returns : goal.returns
returns c = same_members
