-- Rows as functions of a place, with the right side at place u, and what they hold at.
use Rattle.std.specs.Prelude.{◌≡◌, ◌≢◌, ℕ, zero, suc, ◌+◌, ◌*◌, ◌%◌, ◌<◌, ◌↔◌, Bool, true, false, ◌==◌, if◌then◌else◌, ◌-◌, List, length, slice_index}
use Rattle.prime_field.specs.Sum.{sum_to}
use Rattle.elim_core.specs.Solver.{has_number}

-- the row holds at z; its right side stands at place u
abbrev pub Meets : ℕ → ℕ → (ℕ → ℕ) → (ℕ → ℕ) → Type 0
Meets m u row z = sum_to u (λ k. row k * z k) % m ≡ row u

-- the first u rows hold at z
abbrev pub AllMet : ℕ → ℕ → (ℕ → ℕ → ℕ) → (ℕ → ℕ) → Type 0
AllMet m u rows z = (j : ℕ) → j < u → Meets m u (rows j) z

-- z gives residues to the first u places
abbrev pub AreResidues : ℕ → ℕ → (ℕ → ℕ) → Type 0
AreResidues m u z = (k : ℕ) → k < u → z k < m

-- z with v at place j
unfoldable pub put : {A : Type 0} → ℕ → A → (ℕ → A) → ℕ → A
put zero v z zero = v
put zero v z (suc k) = z (suc k)
put (suc j) v z zero = z zero
put (suc j) v z (suc k) = put j v (λ i. z (suc i)) k

-- the row that is 1 at place j alone
abbrev pub spot : ℕ → ℕ → ℕ
spot j = put j 1 (λ k. 0)

-- row j begins at place j with 1, or is 0 throughout
pub record IsEchelon (m u : ℕ) (rows : ℕ → ℕ → ℕ) : Type 0 where
  pub residues : (j k : ℕ) → j < u → k < u + 1 → rows j k < m
  pub leading : (j : ℕ) → j < u → rows j j < 2
  pub empty : (j k : ℕ) → j < u → k < u + 1 → rows j j ≡ 0 → rows j k ≡ 0
  pub begins : (j k : ℕ) → j < u → k < j → rows j k ≡ 0

-- the rows `now` are those of `old`, and a multiple of `row` by a unit in the empty slot p
pub record IsInserted (m u : ℕ) (old now : ℕ → ℕ → ℕ) (row : ℕ → ℕ) (p factor inverse : ℕ) : Type 0 where
  pub place : p < u
  pub large : 1 < m
  pub was_empty : (k : ℕ) → k < u + 1 → old p k ≡ 0
  pub unit : (factor * inverse) % m ≡ 1
  pub residues : (k : ℕ) → k < u + 1 → row k < m
  pub others : (j k : ℕ) → j < u → k < u + 1 → j ≢ p → now j k ≡ old j k
  pub scaled : (k : ℕ) → k < u + 1 → now p k ≡ (factor * row k) % m

-- the row was inserted in the empty slot p, by some unit
pub record HasInserted (m u : ℕ) (old now : ℕ → ℕ → ℕ) (row : ℕ → ℕ) (p : ℕ) : Type 0 where
  pub factor : ℕ
  pub inverse : ℕ
  pub inserted : IsInserted m u old now row p factor inverse

-- a list of residues at which the rows hold and the row doesn't
pub record IsCut (m u : ℕ) (rows : ℕ → ℕ → ℕ) (row : ℕ → ℕ) : Type 0 where
  pub z : ℕ → ℕ
  pub residues : AreResidues m u z
  pub met : AllMet m u rows z
  pub unmet : Meets m u row z → ⊥

-- z solves the rows and is v at the places that `has` picks
pub record IsChoice (m u : ℕ) (rows : ℕ → ℕ → ℕ) (has : ℕ → Bool) (v z : ℕ → ℕ) : Type 0 where
  pub residues : AreResidues m u z
  pub met : AllMet m u rows z
  pub chosen : (k : ℕ) → k < u → has k ≡ true → z k ≡ v k

-- the values of unknowns as told by those that `has` picks
pub record Tells (m u : ℕ) (Solves : (ℕ → ℕ) → Type 0) (has : ℕ → Bool) (c : ℕ → ℕ → ℕ) (d : ℕ → ℕ) : Type 0 where
  pub residues : (j k : ℕ) → j < u → k < u → c j k < m
  pub constants : (j : ℕ) → j < u → d j < m
  pub outside : (j k : ℕ) → j < u → k < u → has k ≡ false → c j k ≡ 0
  pub own : (j : ℕ) → j < u → has j ≡ true → c j j ≡ 1
  pub own_others : (j k : ℕ) → j < u → k < u → has j ≡ true → j ≢ k → c j k ≡ 0
  pub own_constant : (j : ℕ) → j < u → has j ≡ true → d j ≡ 0
  pub exact : (z : ℕ → ℕ) → AreResidues m u z → (Solves z ↔ ((j : ℕ) → j < u → z j ≡ (sum_to u (λ k. c j k * z k) + d j) % m))

-- no values are told by those that `has` picks
abbrev pub IsUntold : (m u : ℕ) → (ℕ → ℕ → ℕ) → (ℕ → Bool) → Type 0
IsUntold m u rows has = (c : ℕ → ℕ → ℕ) (d : ℕ → ℕ) → Tells m u (AllMet m u rows) has c d → ⊥

-- the choice of 1 for the unknown of the number `chosen`, and of 0 for the others
abbrev pub chosen_value : ℕ → ℕ → ℕ
chosen_value chosen number = if number == chosen then 1 else 0

-- `now` holds where `old` does and the unknown at the place has the value
abbrev pub Fixes : (m u : ℕ) → (ℕ → ℕ → ℕ) → (ℕ → ℕ → ℕ) → ℕ → ℕ → Type 0
Fixes m u old now place value = (z : ℕ → ℕ) → AreResidues m u z → (AllMet m u now z ↔ (AllMet m u old z × (z place ≡ value)))

-- no two solutions are such that the unknown at the place has the value in one alone
abbrev pub IsDecided : (m u : ℕ) → (ℕ → ℕ → ℕ) → ℕ → ℕ → Type 0
IsDecided m u rows place value = (y z : ℕ → ℕ) → AreResidues m u y → AreResidues m u z → AllMet m u rows y → AllMet m u rows z → y place ≡ value → z place ≢ value → ⊥

-- what the constant and the numbers in the columns from `first` on give at the values, in the row of a list that begins at `start`
abbrev pub told_in : (m : ℕ) → (ℕ → ℕ) → (set out : List ℕ) → ℕ → ℕ → ℕ
told_in m values set out start first = (sum_to (length set - first) (λ r. slice_index out (start + (first + r)) * values (slice_index set (first + r) - 1)) + slice_index out (start + length set)) % m

-- the list has, for each wanted unknown, the multiples for the unknowns of the set and then the constant
pub record IsSolvedList (m u : ℕ) (rows : ℕ → ℕ → ℕ) (set want out : List ℕ) : Type 0 where
  pub c : ℕ → ℕ → ℕ
  pub d : ℕ → ℕ
  pub tells : Tells m u (AllMet m u rows) (λ k. has_number set (k + 1)) c d
  pub multiples : (t i : ℕ) → t < length want → i < length set →
      slice_index out (t * (length set + 1) + i) ≡ c (slice_index want t - 1) (slice_index set i - 1)
  pub constants : (t : ℕ) → t < length want →
      slice_index out (t * (length set + 1) + length set) ≡ d (slice_index want t - 1)
