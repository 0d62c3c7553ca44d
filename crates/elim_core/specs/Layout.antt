-- How the words lent to an elimination keep rows.
use Rattle.std.specs.Prelude.{◌≡◌, ◌≢◌, ℕ, ◌+◌, ◌-◌, ◌*◌, ◌<◌, ◌↔◌, ◌==◌, nat_lt, if◌then◌else◌, List, length, slice_index}
use Rattle.prime_field.specs.Residue.{IsPrime}
use Rattle.elim_core.specs.Rows.{Meets, AllMet, AreResidues, IsCut}
use Rattle.elim_core.specs.declared.Rank.{Rank}
use Rattle.elim_core.specs.declared.Rank.TheVariants.{New, Same, Contradiction}
use Rattle.elim_core.specs.declared.elimination.Lead.{Lead}

-- entry k of the row in slot j, its right side at k = u. A slot whose end is 0 is empty, which stands for a row of zeros.
-- Another's row begins at place j with 1, and has zeros from its end on. Its right side is kept where the 1 would stand; the
-- words before that place and from the end on are not read
unfoldable pub entry : ℕ → List ℕ → List ℕ → ℕ → ℕ → ℕ
entry u rows ends j k =
    if slice_index ends j == 0 then 0 else
    (if nat_lt k j then 0 else
    (if k == j then 1 else
    (if k == u then slice_index rows (j * (u + 1) + j) else
    (if nat_lt k (slice_index ends j) then slice_index rows (j * (u + 1) + k) else 0))))

-- u slots of u + 1 words, with an end each, whose entries are residues
pub record IsLaidOut (m u : ℕ) (rows ends : List ℕ) : Type 0 where
  pub rows_room : length rows ≡ u * (u + 1)
  pub ends_room : length ends ≡ u
  pub within : (j : ℕ) → j < u → slice_index ends j < u + 1
  pub after : (j : ℕ) → j < u → slice_index ends j ≢ 0 → j < slice_index ends j
  pub residues : (j k : ℕ) → j < u → k < u + 1 → entry u rows ends j k < m

-- a row of residues, with its right side
pub record IsRow (m u : ℕ) (row : List ℕ) : Type 0 where
  pub room : length row ≡ u + 1
  pub residues : (k : ℕ) → k < u + 1 → slice_index row k < m

-- the entries before place `first`, and those from `end` on but the right side, are 0
pub record IsSpan (u : ℕ) (row : List ℕ) (first end : ℕ) : Type 0 where
  pub before : (k : ℕ) → k < first → slice_index row k ≡ 0
  pub beyond : (k : ℕ) → end < k + 1 → k < u → slice_index row k ≡ 0

-- a row of zeros
pub record IsCleared (u : ℕ) (row : List ℕ) : Type 0 where
  pub room : length row ≡ u + 1
  pub zeros : (k : ℕ) → k < u + 1 → slice_index row k ≡ 0

-- the row begins at its lead's place, where no row is kept, and ends at its end
pub record IsLead (u : ℕ) (ends row : List ℕ) (lead : Lead) : Type 0 where
  pub within : lead.place < lead.end
  pub end_within : lead.end < u + 1
  pub empty : slice_index ends lead.place ≡ 0
  pub some : slice_index row lead.place ≢ 0
  pub span : IsSpan u row lead.place lead.end

-- the slots that were used are as they were
pub record KeepsUsed (u : ℕ) (old_rows old_ends rows ends : List ℕ) : Type 0 where
  pub same_end : (j : ℕ) → j < u → slice_index old_ends j ≢ 0 → slice_index ends j ≡ slice_index old_ends j
  pub same_row : (j k : ℕ) → j < u → k < u + 1 → slice_index old_ends j ≢ 0 →
      slice_index rows (j * (u + 1) + k) ≡ slice_index old_rows (j * (u + 1) + k)

-- `now` holds where `old` and the row do, and some solution of `old` is no solution of the row
pub record IsNewRow (m u : ℕ) (old now : ℕ → ℕ → ℕ) (row : ℕ → ℕ) : Type 0 where
  pub met : (z : ℕ → ℕ) → (AllMet m u now z ↔ (AllMet m u old z × Meets m u row z))
  pub cut : IsCut m u old row

-- `now` holds where `old` does, and the row holds there too
pub record IsSameRow (m u : ℕ) (old now : ℕ → ℕ → ℕ) (row : ℕ → ℕ) : Type 0 where
  pub met : (z : ℕ → ℕ) → (AllMet m u now z ↔ AllMet m u old z)
  pub follows : (z : ℕ → ℕ) → AllMet m u old z → Meets m u row z

-- `now` holds where `old` does; where m is prime, the row holds at no solution of it
pub record IsNoRow (m u : ℕ) (old now : ℕ → ℕ → ℕ) (row : ℕ → ℕ) : Type 0 where
  pub met : (z : ℕ → ℕ) → (AllMet m u now z ↔ AllMet m u old z)
  pub none : IsPrime m → (z : ℕ → ℕ) → AllMet m u old z → Meets m u row z → ⊥

-- what each answer says of the rows before and after, and of the row that was absorbed
abbrev pub RowSays : Rank → (m u : ℕ) → (ℕ → ℕ → ℕ) → (ℕ → ℕ → ℕ) → (ℕ → ℕ) → Type 0
RowSays New m u old now row = IsNewRow m u old now row
RowSays Same m u old now row = IsSameRow m u old now row
RowSays Contradiction m u old now row = IsNoRow m u old now row

-- the slots up to a layer keep their ends, and those of later layers are empty
pub record IsCutBack (u : ℕ) (ends layers : List ℕ) (layer : ℕ) (back : List ℕ) : Type 0 where
  pub room : length back ≡ u
  pub kept : (k : ℕ) → k < u → slice_index layers k < layer + 1 → slice_index back k ≡ slice_index ends k
  pub emptied : (k : ℕ) → k < u → layer < slice_index layers k → slice_index back k ≡ 0

-- the rows are the old ones and further ones, and hold where the old ones do and the first unknowns of the set are 0
pub record HasZeros (m u : ℕ) (old_rows old_ends rows ends set : List ℕ) (count : ℕ) : Type 0 where
  pub laid_out : IsLaidOut m u rows ends
  pub keeps_used : KeepsUsed u old_rows old_ends rows ends
  pub met : (z : ℕ → ℕ) → AreResidues m u z → (AllMet m u (entry u rows ends) z ↔
      (AllMet m u (entry u old_rows old_ends) z × ((i : ℕ) → i < count → z (slice_index set i - 1) ≡ 0)))

-- for each layer up to `count`, the rows up to that layer make as many unknowns of the set 0
abbrev pub IsLayered : (m u : ℕ) → (old_rows old_ends rows ends layers set : List ℕ) → ℕ → Type 0
IsLayered m u old_rows old_ends rows ends layers set count = (layer : ℕ) (back : List ℕ) → layer < count + 1 →
    IsCutBack u ends layers layer back → HasZeros m u old_rows old_ends rows back set layer
