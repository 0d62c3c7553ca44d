-- The rows of a system by their numbers: where their values stand, and what solves them in another order.
use Rattle.std.proofs.Common.{◌≡◌, ℕ, zero, suc, ◌+◌, ◌<◌, ◌≤◌, ◌↔◌, List, [], ◌∷◌, ◌++◌, All, Contains, length, take, drop, get_or, refl, sym, ◌∙◌, ap, subst, add-one, arith}
use Rattle.std.specs.Prelude.{Some, map, slice_get}
use Rattle.std.proofs.lemmas.List.{drop-drop, get_or-map, length-map, map-append, take_more}
use Rattle.std.proofs.lemmas.List.Elements.{All-map, All-take}
use Rattle.std.proofs.lemmas.Option.{slice_get_within}
use Rattle.elim_core.specs.Kept.{row_with}
use Rattle.elim_core.specs.Solution.{IsSolution, Satisfies}
use Rattle.elim_core.specs.Sparse.{entries_of, rows_with}
use Rattle.elim_core.specs.declared.SparseRow.{SparseRow}
use Rattle.sparse_solver.specs.Order.{TakesEach}

-- how many values the rows have up to a row and with it
pub entries-suc : (rows : List SparseRow) (k : ℕ) (row : SparseRow) → slice_get rows k ≡ Some row → entries_of (take (suc k) rows) ≡ entries_of (take k rows) + length row.columns
entries-suc [] k row is = absurd (omega (arith, slice_get_within [] k row is))
entries-suc (first ∷ rows) zero row is =
    let same : first ≡ row = cc in
    omega (arith, ap (λ r. length r.columns) same)
entries-suc (first ∷ rows) (suc k) row is = omega (arith, entries-suc rows k row is)

pub entries-more : (rows : List SparseRow) (k : ℕ) (row : SparseRow) → slice_get rows k ≡ Some row → entries_of (take (k + 1) rows) ≡ entries_of (take k rows) + length row.columns
entries-more rows k row is = ap (λ n. entries_of (take n rows)) (add-one k) ∙ entries-suc rows k row is

-- the values of a row are among those of all rows
pub entries-within : (rows : List SparseRow) (k : ℕ) (row : SparseRow) → slice_get rows k ≡ Some row → entries_of (take k rows) + length row.columns ≤ entries_of rows
entries-within [] k row is = absurd (omega (arith, slice_get_within [] k row is))
entries-within (first ∷ rows) zero row is =
    let same : first ≡ row = cc in
    omega (arith, ap (λ r. length r.columns) same)
entries-within (first ∷ rows) (suc k) row is = omega (arith, entries-within rows k row is)

-- a system has a row for each row of columns
pub rows_with-length : (u : ℕ) (rows : List SparseRow) (values : List ℕ) → length (rows_with u rows values) ≡ length rows
rows_with-length u [] values = refl
rows_with-length u (row ∷ rows) values = ap suc (rows_with-length u rows (drop (length row.columns) values))

-- a row of the system has the values behind those of the rows before it
pub rows_with-at : (u : ℕ) (rows : List SparseRow) (values : List ℕ) (k : ℕ) (row : SparseRow) → slice_get rows k ≡ Some row →
    get_or (rows_with u rows values) k [] ≡ row_with u row.columns (take (length row.columns) (drop (entries_of (take k rows)) values))
rows_with-at u [] values k row is = absurd (omega (arith, slice_get_within [] k row is))
rows_with-at u (first ∷ rows) values zero row is =
    let same : first ≡ row = cc in
    ap (λ r. row_with u r.columns (take (length r.columns) values)) same
rows_with-at u (first ∷ rows) values (suc k) row is =
    rows_with-at u rows (drop (length first.columns) values) k row is
    ∙ ap (λ l. row_with u row.columns (take (length row.columns) l)) (drop-drop (entries_of (take k rows)) (length first.columns) values)

-- the rows of a system with these numbers
abbrev pub picked : List (List ℕ) → List ℕ → List (List ℕ)
picked system order = map (λ k. get_or system k []) order

pub picked-more : (system : List (List ℕ)) (order : List ℕ) (i number : ℕ) → i < length order → number ≡ get_or order i 0 → picked system (take i order) ++ get_or system number [] ∷ [] ≡ picked system (take (i + 1) order)
picked-more system order i number low is =
    ap (λ n. picked system (take i order) ++ get_or system n [] ∷ []) is
    ∙ sym (map-append (λ k. get_or system k []) (take i order) (get_or order i 0 ∷ []))
    ∙ ap (picked system) (sym (take_more order i 0 low))

-- what holds of each row holds of each that is picked
pub All-picked : (P : List ℕ → Type 0) (system : List (List ℕ)) (order : List ℕ) → All (λ k. k < length system) order → All P system → All P (picked system order)
All-picked P system order low all = All-map P (λ k. get_or system k []) order (λ j d within. all (get_or order j d) [] (low j d within))

-- and of each row where each was picked
pub All-from_picked : (P : List ℕ → Type 0) (system : List (List ℕ)) (order : List ℕ) → ((k : ℕ) → k < length system → Contains order k) → All P (picked system order) → All P system
All-from_picked P system order every all k d low =
    let at = every k low in
    let within : at.0 < length (picked system order) = omega (arith, at.1, length-map order (λ i. get_or system i [])) in
    let there : get_or (picked system order) at.0 d ≡ get_or system k d =
    get_or-map (λ i. get_or system i []) order at.0 k d at.1 ∙ ap (λ i. get_or system i []) at.2 ∙ get_or-same system k [] d low in
    subst P there (all at.0 d within)
  where
    get_or-same : (xs : List (List ℕ)) (i : ℕ) (d e : List ℕ) → i < length xs → get_or xs i d ≡ get_or xs i e
    get_or-same [] i d e low = absurd (omega arith)
    get_or-same (x ∷ xs) zero d e low = refl
    get_or-same (x ∷ xs) (suc i) d e low = get_or-same xs i d e (omega arith)

module _ (m u : ℕ) (system : List (List ℕ)) (order : List ℕ) (takes : TakesEach (length system) order) where
  -- what solves a system solves the rows that were taken so far
  pub solution_picked : (i : ℕ) (zs : List ℕ) → IsSolution m u system zs → IsSolution m u (picked system (take i order)) zs
  solution_picked i zs s = record {
    width = s.width;
    residues = s.residues;
    each = All-picked (λ row. Satisfies m row zs) system (take i order) (All-take (λ k. k < length system) i order takes.within) s.each;
  }

  -- a system with its rows in another order has the same solutions
  pub picked_same : (zs : List ℕ) → (IsSolution m u (picked system order) zs ↔ IsSolution m u system zs)
  picked_same zs = (
    λ s. record { width = s.width; residues = s.residues; each = All-from_picked (λ row. Satisfies m row zs) system order takes.every s.each },
    λ s. record { width = s.width; residues = s.residues; each = All-picked (λ row. Satisfies m row zs) system order takes.within s.each },
  )
