-- Flags for the nodes on which the output rests.
use Rattle.std.specs.Prelude.{ℕ, ◌≡◌, ◌≤◌, ◌<◌, ◌⊎◌, Bool, true, List, length, Some, slice_get, slice_set}
use Rattle.graph_file.specs.Needed.{IsNeededFor, Reads}
use Rattle.graph_file.specs.declared.graph.NodeKind.{NodeKind}
use Rattle.graph_file.specs.declared.graph.Source.{Source}
use Rattle.graph_file.specs.declared.graph.Source.TheVariants as source

abbrev pub IsSet : List Bool → ℕ → Type 0
IsSet flags k = slice_get flags k ≡ Some true

-- the flags with that of the list's node set
abbrev pub marked : Source → List Bool → List Bool
marked source.Input flags = flags
marked (source.Node number) flags = slice_set flags number true

-- the new flags are the old ones, and those of the nodes among the first of these lists; beside them only flags of
-- nodes among the lists may be set
pub record MarksFirst (sources : List Source) (count : ℕ) (old new : List Bool) : Type 0 where
  pub counted : length new ≡ length old
  pub stays : (k : ℕ) → IsSet old k → IsSet new k
  pub wanted : (i k : ℕ) → i < count → slice_get sources i ≡ Some (source.Node k) → IsSet new k
  pub only : (k : ℕ) → IsSet new k → IsSet old k ⊎ ((i : ℕ) × (slice_get sources i ≡ Some (source.Node k)))

-- the flags of needed nodes, as far as the output and the nodes from a place on show them
pub record AreMarkedFrom (kinds : List NodeKind) (output : Source) (from : ℕ) (flags : List Bool) : Type 0 where
  pub counted : length flags ≡ length kinds
  pub output_set : (k : ℕ) → output ≡ source.Node k → IsSet flags k
  pub needed : (k : ℕ) → IsSet flags k → IsNeededFor kinds output k
  pub read : (k j : ℕ) (kind : NodeKind) → from ≤ j → IsSet flags j → slice_get kinds j ≡ Some kind → Reads kind (source.Node k) → IsSet flags k

-- no node reads its own list or a later one
abbrev pub ReadEarlier : List NodeKind → Type 0
ReadEarlier kinds = (j k : ℕ) (kind : NodeKind) → slice_get kinds j ≡ Some kind → Reads kind (source.Node k) → k < j
