-- What a shelf of files tells, and what its calls change of that.
use Rattle.std.specs.Prelude.{◌≡◌, ◌≢◌, ℕ, ◌<◌, ◌≤◌, List, length, Option, Some, None, ⊤}
use Rattle.std.specs.Io.KnownBytes.{Consumes}
use Rattle.flow_base.specs.Counts.{counted}

pub record ShelfView : Type 0 where
  -- the bytes under a name: None where they are not told, Some None where nothing stands there
  pub files : List ℕ → Option (Option (List ℕ))
  -- the name of the open file, if one is open
  pub name : Option (List ℕ)
  -- what is left of the open file, where that is told
  pub rest : Option (List ℕ)
  -- how many bytes were taken since the file was opened
  pub taken : ℕ
  -- how many faults each name had
  pub faults : List ℕ → ℕ

-- the count of the open name, or 0 where no file is open
abbrev pub faults_at : (List ℕ → ℕ) → Option (List ℕ) → ℕ
faults_at faults None = 0
faults_at faults (Some name) = faults name

abbrev pub open_faults : ShelfView → ℕ
open_faults shelf = faults_at shelf.faults shelf.name

-- no bytes under any name change, no count falls, and no count rises but that of this name
pub record TouchesOnly (old new : ShelfView) (name : Option (List ℕ)) : Type 0 where
  pub files : (asked : List ℕ) → new.files asked ≡ old.files asked
  pub later : (asked : List ℕ) → old.faults asked ≤ new.faults asked
  pub others : (asked : List ℕ) → name ≢ Some asked → new.faults asked ≡ old.faults asked

-- an open file's rest is all the bytes of its name, where they are told; what is told not to be there is never opened
abbrev pub Opens : Option (Option (List ℕ)) → Option (List ℕ) → Type 0
Opens None rest = ⊤
Opens (Some None) rest = ⊥
Opens (Some (Some bytes)) rest = rest ≡ Some bytes

-- these bytes were the front of the rest and are taken; the same file is open, and no other name's count rose
pub record Takes (old new : ShelfView) (bytes : List ℕ) : Type 0 where
  pub touched : TouchesOnly old new old.name
  pub name : new.name ≡ old.name
  pub front : Consumes old.rest new.rest bytes
  pub count : new.taken ≡ counted old.taken (length bytes)

-- some front of the rest is taken, and no more
abbrev pub TakesSome : ShelfView → ShelfView → Type 0
TakesSome old new = (bytes : List ℕ) × Takes old new bytes

-- a front of the rest that is longer than the limit is taken
abbrev pub TakesMore : ShelfView → ShelfView → ℕ → Type 0
TakesMore old new limit = (bytes : List ℕ) × Takes old new bytes × (limit < length bytes)

-- all that the shelf tells is as it was
pub record IsSame (old new : ShelfView) : Type 0 where
  pub files : (asked : List ℕ) → new.files asked ≡ old.files asked
  pub name : new.name ≡ old.name
  pub rest : new.rest ≡ old.rest
  pub taken : new.taken ≡ old.taken
  pub faults : (asked : List ℕ) → new.faults asked ≡ old.faults asked
