-- A law that names owe as keys of a map.
use Rattle.std.specs.Prelude.{◌≡◌, ℕ, List, bytes_eq, IsTrue}
use Rattle.std.specs.Hash as fed
use Rattle.std.specs.Hash.{items_Alike, same_Alike}
use Rattle.std.specs.Cmp.{unsigned_Decides}

-- equal bytes are fed alike to a hash
pub equal_bytes_feed_alike : (x y : List ℕ) → IsTrue (bytes_eq x y) → fed.slice fed.u8 x ≡ fed.slice fed.u8 y
equal_bytes_feed_alike = (items_Alike (same_Alike fed.u8 unsigned_Decides)).fed
