-- The count of faults that each name has.
use Rattle.std.specs.Prelude.{ℕ, List, IsSome, unwrap_or}
use Rattle.std.specs.BTreeMap.{get_by_text}
use Rattle.flow_base.specs.declared.fault_counts.FaultCounts.{FaultCounts}

-- how many faults a name had: none where it has no entry
abbrev pub faults_of : FaultCounts → List ℕ → ℕ
faults_of counts name = unwrap_or (get_by_text counts.counts name) 0

-- the name has an entry, so that counting its next fault takes no memory
abbrev pub HasEntry : FaultCounts → List ℕ → Type 0
HasEntry counts name = IsSome (get_by_text counts.counts name)
