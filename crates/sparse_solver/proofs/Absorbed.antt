-- The rows of a system are kept in the order in which they are taken.
use Rattle.std.proofs.Common.{◌≡◌, ◌≢◌, ℕ, ◌+◌, ◌<◌, ◌≤◌, List, [], length, take, drop, get_or, sym, ◌∙◌, ap, subst, arith}
use Rattle.std.specs.Prelude.{Some, slice_get}
use Rattle.std.proofs.lemmas.List.{take_all}
use Rattle.prime_field.specs.Residue.{IsPrime}
use Rattle.elim_core.specs.Kept.{Belongs, HasSolution, IsAbsorbed, modulus_of, row_with, unknowns_of}
use Rattle.elim_core.specs.Solved.{IsKept}
use Rattle.elim_core.specs.Sparse.{entries_of, rows_with}
use Rattle.elim_core.specs.declared.Elim.{Elim}
use Rattle.elim_core.specs.declared.Rank.{Rank}
use Rattle.elim_core.specs.declared.Rank.TheVariants.{New, Same, Contradiction}
use Rattle.elim_core.specs.declared.SparseRow.{SparseRow}
use Rattle.elim_core.proofs.KeptRows.{kept_along, kept_more, none_left}
use Rattle.sparse_solver.specs.Order.{TakesEach}
use Rattle.sparse_solver.proofs.Systems.{picked, picked-more, picked_same, rows_with-at, rows_with-length, solution_picked}

module _ (m u : ℕ) (rows : List SparseRow) (values order : List ℕ) where
  -- the first i rows of the order are kept
  abbrev pub IsKeptTo : Elim → List ℕ → ℕ → Type 0
  IsKeptTo e words i = IsKept e words m u (picked (rows_with u rows values) (take i order))

  takes_each : TakesEach (length rows) order → TakesEach (length (rows_with u rows values)) order
  takes_each takes = subst (λ (n : ℕ). TakesEach n order) (sym (rows_with-length u rows values)) takes

  module _ (old now : Elim) (old_words words : List ℕ) (i number : ℕ) (rank : Rank) (low : i < length order) (number_is : number ≡ get_or order i 0)
      (kept : IsKept old old_words m u (picked (rows_with u rows values) (take i order)))
      (is : IsAbsorbed old old_words now words (get_or (rows_with (unknowns_of old) rows values) number []) rank) where
    row_is : IsAbsorbed old old_words now words (get_or (rows_with u rows values) number []) rank
    row_is = subst (λ (n : ℕ). IsAbsorbed old old_words now words (get_or (rows_with n rows values) number []) rank) kept.same_unknowns is

    pub absorbed_more : Belongs now words → (unknowns_of now ≡ unknowns_of old) × (modulus_of now ≡ modulus_of old) → rank ≢ Contradiction → IsKept now words m u (picked (rows_with u rows values) (take (i + 1) order))
    absorbed_more belongs kind some =
        subst (λ (taken : List (List ℕ)). IsKept now words m u taken) (picked-more (rows_with u rows values) order i number low number_is)
        (kept_more old now old_words words m u (picked (rows_with u rows values) (take i order)) (get_or (rows_with u rows values) number []) rank kept row_is belongs kind some)

    pub absorbed_none : TakesEach (length rows) order → rank ≡ Contradiction → IsPrime m → HasSolution m u (rows_with u rows values) → ⊥
    absorbed_none takes none prime has =
        none_left old now old_words words m u (picked (rows_with u rows values) (take i order)) (get_or (rows_with u rows values) number []) rank kept row_is none prime has.zs
        (solution_picked m u (rows_with u rows values) order (takes_each takes) i has.zs has.solves)
        (has.solves.each number [] (omega (arith, rows_with-length u rows values, takes.within i 0 low, number_is)))

  -- once each row was taken, the system is kept
  pub absorbed_all : (e : Elim) (words : List ℕ) (i : ℕ) → TakesEach (length rows) order → length order ≤ i → IsKept e words m u (picked (rows_with u rows values) (take i order)) → IsKept e words m u (rows_with u rows values)
  absorbed_all e words i takes past kept =
      kept_along e words m u (picked (rows_with u rows values) order) (rows_with u rows values) (picked_same m u (rows_with u rows values) order (takes_each takes))
      (subst (λ (taken : List ℕ). IsKept e words m u (picked (rows_with u rows values) taken)) (take_all i order past) kept)

-- the row that has its values in its columns is that of the system
pub row_absorbed : (old now : Elim) (old_words words : List ℕ) (rank : Rank) (rows : List SparseRow) (values : List ℕ) (number : ℕ) (row : SparseRow) (columns part : List ℕ) → slice_get rows number ≡ Some row → columns ≡ row.columns → part ≡ take (length row.columns) (drop (entries_of (take number rows)) values) →
    IsAbsorbed old old_words now words (row_with (unknowns_of old) columns part) rank → IsAbsorbed old old_words now words (get_or (rows_with (unknowns_of old) rows values) number []) rank
row_absorbed old now old_words words rank rows values number row columns part at columns_are part_is is =
    subst (λ (r : List ℕ). IsAbsorbed old old_words now words r rank)
    (ap (λ l. row_with (unknowns_of old) l part) columns_are ∙ ap (row_with (unknowns_of old) row.columns) part_is ∙ sym (rows_with-at (unknowns_of old) rows values number row at)) is

pub not_new : (rank : Rank) → rank ≡ New → rank ≢ Contradiction
not_new rank is e = absurd (cc)

pub not_same : (rank : Rank) → rank ≡ Same → rank ≢ Contradiction
not_same rank is e = absurd (cc)
