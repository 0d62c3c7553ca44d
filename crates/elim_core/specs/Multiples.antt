-- Multiples of kept rows, and rows that they are added to.
use Rattle.std.specs.Prelude.{◌≡◌, ◌≢◌, ℕ, ◌+◌, ◌*◌, ◌%◌, ◌<◌, List, slice_index}
use Rattle.prime_field.specs.Sum.{sum_to}
use Rattle.elim_core.specs.Layout.{entry, IsLaidOut}
use Rattle.elim_core.specs.declared.slots.Slots.{Slots}
use Rattle.elim_core.specs.declared.group.Group.{Group}

-- slots that are laid out, of not too many unknowns
pub record AreSlots (m : ℕ) (s : Slots) : Type 0 where
  pub few : s.unknowns < 4097
  pub laid_out : IsLaidOut m s.unknowns s.rows.now s.ends.now

-- entry k of the row in slot j
abbrev pub entry_in : Slots → ℕ → ℕ → ℕ
entry_in s = entry s.unknowns s.rows.now s.ends.now

-- entry k of the row in slot j is the word at place k of the slot
abbrev pub IsStored : Slots → ℕ → ℕ → Type 0
IsStored s j k = entry_in s j k ≡ slice_index s.rows.now (j * (s.unknowns + 1) + k)

-- the sum of entry k of the first n rows in the slots from j on, each times its factor
abbrev pub multiples : Slots → ℕ → List ℕ → ℕ → ℕ → ℕ
multiples s j factors n k = sum_to n (λ t. slice_index factors t * entry_in s (j + t) k)

-- the entries between two places had something added to them
pub record IsAdded (m : ℕ) (old now : List ℕ) (from to : ℕ) (added : ℕ → ℕ) : Type 0 where
  pub inside : (k : ℕ) → from < k + 1 → k < to → slice_index now k ≡ (slice_index old k + added k) % m
  pub before : (k : ℕ) → k < from → slice_index now k ≡ slice_index old k
  pub after : (k : ℕ) → to < k + 1 → slice_index now k ≡ slice_index old k

-- as many rows as four in the slots from j on, all of them before place `to`, with residues for factors
pub record IsGroup (m : ℕ) (s : Slots) (j : ℕ) (g : Group) (to : ℕ) : Type 0 where
  pub few : g.count < 5
  pub within : j + g.count < to + 1
  pub factors : (t : ℕ) → t < g.count → slice_index g.factors t < m
  pub used : (t : ℕ) → t < g.count → slice_index s.ends.now (j + t) ≢ 0
  pub shared : (t : ℕ) → t < g.count → g.shared < slice_index s.ends.now (j + t) + 1
  pub shared_low : g.shared < s.unknowns + 1
  pub end : (t : ℕ) → t < g.count → slice_index s.ends.now (j + t) < g.end + 1
  pub end_low : g.end < s.unknowns + 1

-- the product of number k of two lists
abbrev pub product_at : List ℕ → List ℕ → ℕ → ℕ
product_at a b k = slice_index a k * slice_index b k
