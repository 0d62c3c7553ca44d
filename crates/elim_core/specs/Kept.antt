-- An elimination and the words lent to it.
use Rattle.std.specs.Prelude.{◌≡◌, ◌≢◌, ℕ, ◌+◌, ◌-◌, ◌*◌, ◌<◌, ◌≤◌, ◌↔◌, ◌==◌, if◌then◌else◌, List, [], ◌∷◌, length, slice_index, map, take, drop}
use Rattle.std.specs.List.{range_with_len}
use Rattle.prime_field.specs.Modulus.{value_of}
use Rattle.elim_core.specs.Layout.{entry, IsLaidOut, IsCleared}
use Rattle.elim_core.specs.Solution.{IsSolution, Satisfies}
use Rattle.prime_field.specs.Residue.{IsPrime}
use Rattle.elim_core.specs.declared.Elim.{Elim}
use Rattle.elim_core.specs.declared.Rank.{Rank}
use Rattle.elim_core.specs.declared.Rank.TheVariants.{New, Same, Contradiction}

-- how many unknowns there are
abbrev pub unknowns_of : Elim → ℕ
unknowns_of e = e.unknowns

-- what residues are taken by
abbrev pub modulus_of : Elim → ℕ
modulus_of e = value_of e.modulus

-- the words of the slots, their ends, and a row to work on
abbrev pub rows_of : ℕ → List ℕ → List ℕ
rows_of u words = take (u * (u + 1)) words

abbrev pub ends_of : ℕ → List ℕ → List ℕ
ends_of u words = take u (drop (u * (u + 1)) words)

abbrev pub work_of : ℕ → List ℕ → List ℕ
work_of u words = take (u + 1) (drop u (drop (u * (u + 1)) words))

-- the rows f 0, .., f (u - 1), of u + 1 entries each
unfoldable pub rows_listed : ℕ → (ℕ → ℕ → ℕ) → List (List ℕ)
rows_listed u f = map (λ j. map (f j) (range_with_len 0 (u + 1))) (range_with_len 0 u)

-- a row that nothing satisfies: zeros, with 1 on the right side
unfoldable pub broken_row : ℕ → List ℕ
broken_row u = map (λ k. if k == u then 1 else 0) (range_with_len 0 (u + 1))

-- the rows that the words keep for e
unfoldable pub kept_rows : Elim → List ℕ → List (List ℕ)
kept_rows e words =
    if e.failed then broken_row e.unknowns ∷ [] else
    rows_listed e.unknowns (entry e.unknowns (rows_of e.unknowns words) (ends_of e.unknowns words))

-- there are enough words, and they hold rows as an elimination of this modulus and width keeps them
pub record Belongs (e : Elim) (words : List ℕ) : Type 0 where
  pub few : e.unknowns ≤ 4096
  pub room : (e.unknowns + 4) * (e.unknowns + 2) ≤ length words
  pub laid_out : IsLaidOut (value_of e.modulus) e.unknowns (rows_of e.unknowns words) (ends_of e.unknowns words)
  pub cleared : IsCleared e.unknowns (work_of e.unknowns words)

-- each list of u residues is a solution
abbrev pub IsFree : ℕ → ℕ → List (List ℕ) → Type 0
IsFree m u rows = (zs : List ℕ) → length zs ≡ u → ((k : ℕ) → k < u → slice_index zs k < m) → IsSolution m u rows zs

-- there is a solution
pub record HasSolution (m u : ℕ) (rows : List (List ℕ)) : Type 0 where
  pub zs : List ℕ
  pub solves : IsSolution m u rows zs

-- some solution doesn't satisfy the row
pub record IsCutBy (m u : ℕ) (rows : List (List ℕ)) (row : List ℕ) : Type 0 where
  pub zs : List ℕ
  pub solves : IsSolution m u rows zs
  pub unsatisfied : Satisfies m row zs → ⊥

-- the value that stands in the column, or 0 where none does
abbrev pub value_in : List ℕ → List ℕ → ℕ → ℕ
value_in [] values column = 0
value_in (x ∷ columns) [] column = 0
value_in (x ∷ columns) (v ∷ values) column = if x == column then v else value_in columns values column

-- the place of the entry in a column; column 0 is the right side
abbrev pub place_in : ℕ → ℕ → ℕ
place_in u column = if column == 0 then u else column - 1

-- the column of the entry at a place
abbrev pub column_at : ℕ → ℕ → ℕ
column_at u k = if k == u then 0 else k + 1

-- the first n values stand at the places of their columns, and zeros at the other places
pub record HasEntries (u : ℕ) (row columns values : List ℕ) (n : ℕ) : Type 0 where
  pub room : length row ≡ u + 1
  pub there : (i : ℕ) → i < n → slice_index row (place_in u (slice_index columns i)) ≡ slice_index values i
  pub elsewhere : (k : ℕ) → k < u + 1 → ((i : ℕ) → i < n → place_in u (slice_index columns i) ≢ k) → slice_index row k ≡ 0

-- the row with these values in these columns and zeros elsewhere; column 0 is the right side
unfoldable pub row_with : ℕ → List ℕ → List ℕ → List ℕ
row_with u columns values =
    map (λ k. value_in columns values (column_at u k)) (range_with_len 0 (u + 1))

-- what absorbing a row answered, and what it left
pub record IsAbsorbed (old : Elim) (old_words : List ℕ) (now : Elim) (words row : List ℕ) (rank : Rank) : Type 0 where
  -- the solutions are the earlier ones that satisfy the row
  pub solutions : IsPrime (modulus_of old) → (zs : List ℕ) →
      (IsSolution (modulus_of old) (unknowns_of old) (kept_rows now words) zs ↔
      (IsSolution (modulus_of old) (unknowns_of old) (kept_rows old old_words) zs × Satisfies (modulus_of old) row zs))
  -- after another answer than `Contradiction` they are, whether the modulus is prime or not
  pub kept : rank ≢ Contradiction → (zs : List ℕ) →
      (IsSolution (modulus_of old) (unknowns_of old) (kept_rows now words) zs ↔
      (IsSolution (modulus_of old) (unknowns_of old) (kept_rows old old_words) zs × Satisfies (modulus_of old) row zs))
  -- after a contradiction there is none
  pub contradiction : rank ≡ Contradiction → (zs : List ℕ) → IsSolution (modulus_of old) (unknowns_of old) (kept_rows now words) zs → ⊥
  -- after another answer there is one
  pub solvable : rank ≢ Contradiction → HasSolution (modulus_of old) (unknowns_of old) (kept_rows now words)
  -- each earlier solution satisfies the row
  pub same : rank ≡ Same → (zs : List ℕ) → IsSolution (modulus_of old) (unknowns_of old) (kept_rows old old_words) zs → Satisfies (modulus_of old) row zs
  -- some earlier solution doesn't
  pub new : rank ≡ New → IsCutBy (modulus_of old) (unknowns_of old) (kept_rows old old_words) row
