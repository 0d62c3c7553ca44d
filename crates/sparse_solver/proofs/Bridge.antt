-- What solves a system of sparse rows, told of the sums of its rows.
use Rattle.std.proofs.Common.{◌≡◌, ◌≢◌, ℕ, zero, suc, ◌+◌, ◌*◌, ◌-◌, ◌%◌, ◌<◌, ◌≤◌, ◌↔◌, List, [], ◌∷◌, All, length, get_or, take, drop, inl, inr, refl, sym, ◌∙◌, ap, subst, add-one, length-take, length-drop, arith}
use Rattle.std.specs.Prelude.{Some, slice_get}
use Rattle.std.proofs.lemmas.Bool.{cases_eq, eq-eqb, ne_eqb}
use Rattle.std.proofs.lemmas.List.{get_or-take, get_or-drop}
use Rattle.std.proofs.lemmas.List.FromFn.{get_or-map-range_with_len}
use Rattle.std.proofs.lemmas.Option.{slice_get_within}
use Rattle.std.proofs.Math.Nat.{mod-eq_of_lt, zero-mod}
use Rattle.prime_field.specs.Sum.{sum_to}
use Rattle.prime_field.proofs.Residues.{add-cong, by_multiples, cancel}
use Rattle.prime_field.proofs.Sums.{sum-same, sum-scaled, sum_differ}
use Rattle.elim_core.specs.Kept.{column_at, row_with, value_in}
use Rattle.elim_core.specs.Solution.{Satisfies}
use Rattle.elim_core.specs.Solver.{IsAscending}
use Rattle.elim_core.specs.Sparse.{AreSparseRows, entries_of, rows_with}
use Rattle.elim_core.specs.declared.SparseRow.{SparseRow}
use Rattle.sparse_solver.specs.Order.{AreStarts}
use Rattle.sparse_solver.specs.Packed.{RowsVanish, packed_sum, values_of}
use Rattle.sparse_solver.proofs.Systems.{entries-within, rows_with-at, rows_with-length}

-- a list of values of the unknowns as numbers for the columns
pub numbers_at : ℕ → List ℕ → ℕ → ℕ
numbers_at m zs zero = m - 1
numbers_at m zs (suc k) = get_or zs k 0

pub numbers_at-right : (m : ℕ) (zs : List ℕ) → numbers_at m zs 0 ≡ m - 1
unfolding numbers_at
numbers_at-right m zs = refl

pub numbers_at-unknown : (m : ℕ) (zs : List ℕ) (j : ℕ) → numbers_at m zs (j + 1) ≡ get_or zs j 0
unfolding numbers_at
numbers_at-unknown m zs j = ap (numbers_at m zs) (add-one j)

sum-first : (n : ℕ) (f : ℕ → ℕ) → sum_to (suc n) f ≡ f 0 + sum_to n (λ k. f (suc k))
sum-first zero f = omega arith
sum-first (suc n) f = omega (arith, sum-first n f)

-- no value stands in a column that comes before all
value_in-none : (columns values : List ℕ) (x : ℕ) → ((i : ℕ) → i < length columns → x < get_or columns i 0) → value_in columns values x ≡ 0
value_in-none [] values x before = refl
value_in-none (y ∷ columns) [] x before = refl
value_in-none (y ∷ columns) (v ∷ values) x before =
    let apart : y ≢ x = λ same. absurd (omega (arith, before 0 (omega arith), same)) in
    rw (ne_eqb y x apart) (value_in-none columns values x (λ i low. before (suc i) (omega arith)))

-- the sum over the columns of a row is that over all columns
columns_sum : (n : ℕ) (columns values : List ℕ) (w : ℕ → ℕ) → length values ≡ length columns → IsAscending columns → ((i : ℕ) → i < length columns → get_or columns i 0 < n) →
    packed_sum columns values w ≡ sum_to n (λ c. value_in columns values c * w c)
columns_sum n [] values w lengths ascending within =
    sym (sum-same n (λ c. value_in [] values c * w c) (λ c. 0 * 0) (λ c low. omega arith) ∙ sum-scaled n 0 (λ c. 0) ∙ omega arith)
columns_sum n (x ∷ columns) [] w lengths ascending within = absurd (omega arith)
columns_sum n (x ∷ columns) (v ∷ values) w lengths ascending within =
    let rest : packed_sum columns values w ≡ sum_to n (λ c. value_in columns values c * w c) =
    columns_sum n columns values w (omega arith) (λ i j before low. ascending (suc i) (suc j) (omega arith) (omega arith)) (λ i low. within (suc i) (omega arith)) in
    let none : value_in columns values x ≡ 0 = value_in-none columns values x (λ i low. ascending 0 (suc i) (omega arith) (omega arith)) in
    let here : value_in (x ∷ columns) (v ∷ values) x ≡ v = rw (eq-eqb x x refl) refl in
    let differ = sum_differ n x (λ c. value_in (x ∷ columns) (v ∷ values) c * w c) (λ c. value_in columns values c * w c) (within 0 (omega arith))
    (λ c low other. ap (λ y. y * w c) (past c other)) in
    let first = sum-first (length columns) (λ i. get_or (v ∷ values) i 0 * w (get_or (x ∷ columns) i 0)) in
    omega (arith, first, rest, differ, ap (λ y. y * w x) none, ap (λ y. y * w x) here)
  where
    past : (c : ℕ) → c ≢ x → value_in (x ∷ columns) (v ∷ values) c ≡ value_in columns values c
    past c other = rw (ne_eqb x c (λ same. other (sym same))) refl

-- what leaves b leaves 0 once b times the modulus less 1 is added
right_side : (m b sum : ℕ) → b < m → ((b * (m - 1) + sum) % m ≡ 0 ↔ sum % m ≡ b)
right_side m b sum low = (down, up)
  where
    whole : (b * (m - 1) + sum + b) % m ≡ sum % m
    whole = by_multiples m (b * (m - 1) + sum + b) sum 0 b (whole_is m b sum low)
      where
        whole_is : (m b sum : ℕ) → b < m → b * (m - 1) + sum + b + 0 * m ≡ sum + b * m
        whole_is zero b sum low = absurd (omega arith)
        whole_is (suc m) b sum low =
            let less : suc m - 1 ≡ m = omega arith in
            ap (λ x. b * x + sum + b + 0 * suc m) less ∙ omega arith

    down : (b * (m - 1) + sum) % m ≡ 0 → sum % m ≡ b
    down none =
        sym whole ∙
        add-cong m (b * (m - 1) + sum) 0 b b (none ∙ sym (zero-mod m)) refl ∙
        ap (λ t. t % m) (omega arith) ∙ mod-eq_of_lt low

    up : sum % m ≡ b → (b * (m - 1) + sum) % m ≡ 0
    up is =
        cancel m (b * (m - 1) + sum) 0 b (whole ∙ is ∙ sym (mod-eq_of_lt low) ∙ ap (λ t. t % m) (omega arith)) ∙
        zero-mod m

-- an entry of the row with values in some columns
row_with-place : (u : ℕ) (columns values : List ℕ) (k : ℕ) → k < u → get_or (row_with u columns values) k 0 ≡ value_in columns values (suc k)
unfolding row_with
row_with-place u columns values k low =
    get_or-map-range_with_len (λ i. value_in columns values (column_at u i)) 0 (u + 1) k k 0 (omega arith) (omega arith) ∙
    ap (value_in columns values) (rw (ne_eqb k u (λ same. absurd (omega (arith, same)))) (add-one k))

row_with-right : (u : ℕ) (columns values : List ℕ) → get_or (row_with u columns values) u 0 ≡ value_in columns values 0
unfolding row_with
row_with-right u columns values =
    get_or-map-range_with_len (λ i. value_in columns values (column_at u i)) 0 (u + 1) u u 0 (omega arith) (omega arith) ∙
    ap (value_in columns values) (rw (eq-eqb u u refl) refl)

value_in-low : (m : ℕ) (columns values : List ℕ) (c : ℕ) → 0 < m → ((i : ℕ) → i < length values → get_or values i 0 < m) → value_in columns values c < m
value_in-low m [] values c some low = some
value_in-low m (x ∷ columns) [] c some low = some
value_in-low m (x ∷ columns) (v ∷ values) c some low =
    elim (cases_eq x c) [
      | inl same ↦ rw (eq-eqb x c same) (low 0 (omega arith))
      | inr other ↦ rw (ne_eqb x c other) (value_in-low m columns values c some (λ i i_low. low (suc i) (omega arith)))
    ]

-- a list satisfies a row where the sum of the row leaves 0 at it
pub satisfied : (m u : ℕ) (columns values zs : List ℕ) → 0 < m → length zs ≡ u → length values ≡ length columns → IsAscending columns → ((i : ℕ) → i < length columns → get_or columns i 0 ≤ u) →
    ((i : ℕ) → i < length values → get_or values i 0 < m) →
    (packed_sum columns values (numbers_at m zs) % m ≡ 0 ↔ Satisfies m (row_with u columns values) zs)
unfolding numbers_at
satisfied m u columns values zs some width lengths ascending within low = (
  λ none. in_list (side.0 (sym (ap (λ t. t % m) sum_is) ∙ none)),
  λ is. ap (λ t. t % m) sum_is ∙ side.1 (from_list is),
)
  where
    side : ((value_in columns values 0 * (m - 1) + sum_to u (λ k. value_in columns values (suc k) * get_or zs k 0)) % m ≡ 0 ↔ sum_to u (λ k. value_in columns values (suc k) * get_or zs k 0) % m ≡ value_in columns values 0)
    side = right_side m (value_in columns values 0) (sum_to u (λ k. value_in columns values (suc k) * get_or zs k 0)) (value_in-low m columns values 0 some low)

    sum_is : packed_sum columns values (numbers_at m zs) ≡ value_in columns values 0 * (m - 1) + sum_to u (λ k. value_in columns values (suc k) * get_or zs k 0)
    sum_is =
        columns_sum (suc u) columns values (numbers_at m zs) lengths ascending (λ i i_low. omega (arith, within i i_low)) ∙
        sum-first u (λ c. value_in columns values c * numbers_at m zs c)

    row_is : sum_to (length zs) (λ k. get_or (row_with u columns values) k 0 * get_or zs k 0) ≡ sum_to u (λ k. value_in columns values (suc k) * get_or zs k 0)
    row_is =
        ap (λ n. sum_to n (λ k. get_or (row_with u columns values) k 0 * get_or zs k 0)) width ∙
        sum-same u (λ k. get_or (row_with u columns values) k 0 * get_or zs k 0) (λ k. value_in columns values (suc k) * get_or zs k 0)
        (λ k k_low. ap (λ x. x * get_or zs k 0) (row_with-place u columns values k k_low))

    right_is : get_or (row_with u columns values) (length zs) 0 ≡ value_in columns values 0
    right_is = ap (λ n. get_or (row_with u columns values) n 0) width ∙ row_with-right u columns values

    in_list : sum_to u (λ k. value_in columns values (suc k) * get_or zs k 0) % m ≡ value_in columns values 0 → Satisfies m (row_with u columns values) zs
    in_list is = ap (λ t. t % m) row_is ∙ is ∙ sym right_is

    from_list : Satisfies m (row_with u columns values) zs → sum_to u (λ k. value_in columns values (suc k) * get_or zs k 0) % m ≡ value_in columns values 0
    from_list is = sym (ap (λ t. t % m) row_is) ∙ is ∙ right_is

module _ (m u : ℕ) (rows : List SparseRow) (starts values zs : List ℕ) (some : 0 < m) (width : length zs ≡ u) (sparse : AreSparseRows u rows) (begun : AreStarts rows starts) (entries : length values ≡ entries_of rows) (low : (i : ℕ) → i < length values → get_or values i 0 < m) where
  -- the values of a row
  row_values : (k : ℕ) (row : SparseRow) → slice_get rows k ≡ Some row → values_of values (get_or starts k 0) row ≡ take (length row.columns) (drop (entries_of (take k rows)) values)
  row_values k row at =
      let many : get_or starts k 0 + length row.columns - get_or starts k 0 ≡ length row.columns = omega arith in
      ap (λ n. take n (drop (get_or starts k 0) values)) many ∙
      ap (λ n. take (length row.columns) (drop n values)) (begun.each k (slice_get_within rows k row at))

  row_satisfied : (k : ℕ) (row : SparseRow) → slice_get rows k ≡ Some row →
      (packed_sum row.columns (values_of values (get_or starts k 0) row) (numbers_at m zs) % m ≡ 0 ↔ Satisfies m (get_or (rows_with u rows values) k []) zs)
  row_satisfied k row at =
      let part = take (length row.columns) (drop (entries_of (take k rows)) values) in
      let lengths : length part ≡ length row.columns = omega (arith, length-take (length row.columns) (drop (entries_of (take k rows)) values), length-drop (entries_of (take k rows)) values, entries-within rows k row at, entries) in
      let part_low : (i : ℕ) → i < length part → get_or part i 0 < m = λ i i_low.
      subst (λ (x : ℕ). x < m)
      (sym (get_or-take (length row.columns) (drop (entries_of (take k rows)) values) i 0 (omega (arith, lengths, i_low)) ∙ get_or-drop (entries_of (take k rows)) values i 0))
      (low (entries_of (take k rows) + i) (omega (arith, lengths, i_low, entries-within rows k row at, entries))) in
      let is = satisfied m u row.columns part zs some width lengths (sparse k row at).ascending (sparse k row at).within part_low in
      let same : packed_sum row.columns (values_of values (get_or starts k 0) row) (numbers_at m zs) % m ≡ packed_sum row.columns part (numbers_at m zs) % m =
      ap (λ l. packed_sum row.columns l (numbers_at m zs) % m) (row_values k row at) in (
        λ none. subst (λ (r : List ℕ). Satisfies m r zs) (sym (rows_with-at u rows values k row at)) (is.0 (sym same ∙ none)),
        λ holds. same ∙ is.1 (subst (λ (r : List ℕ). Satisfies m r zs) (rows_with-at u rows values k row at) holds),
      )

  -- each row holds at the list where the sum of each leaves 0
  pub all_satisfied : (RowsVanish m rows starts values (numbers_at m zs) ↔ All (λ row. Satisfies m row zs) (rows_with u rows values))
  all_satisfied = (
    λ vanish k d k_low.
        let within : k < length rows = omega (arith, rows_with-length u rows values, k_low) in
        let at = some_row rows k within in
        subst (λ (r : List ℕ). Satisfies m r zs) (get_or-any (rows_with u rows values) k [] d k_low) ((row_satisfied k at.0 at.1).0 (vanish k at.0 at.1)),
    λ hold k row at.
        (row_satisfied k row at).1 (hold k [] (omega (arith, rows_with-length u rows values, slice_get_within rows k row at))),
  )
    where
      some_row : (rows : List SparseRow) (k : ℕ) → k < length rows → (row : SparseRow) × (slice_get rows k ≡ Some row)
      some_row [] k low = absurd (omega arith)
      some_row (row ∷ rows) zero low = (row, refl)
      some_row (row ∷ rows) (suc k) low = some_row rows k (omega arith)

      get_or-any : (xs : List (List ℕ)) (i : ℕ) (d e : List ℕ) → i < length xs → get_or xs i d ≡ get_or xs i e
      get_or-any [] i d e low = absurd (omega arith)
      get_or-any (x ∷ xs) zero d e low = refl
      get_or-any (x ∷ xs) (suc i) d e low = get_or-any xs i d e (omega arith)
