-- Rows given by their entries.
use Rattle.std.proofs.Common.{◌≡◌, ◌≢◌, ℕ, zero, suc, ◌+◌, ◌-◌, ◌<◌, ◌≤◌, ◌⊎◌, List, [], ◌∷◌, length, get_or, inl, inr, refl, sym, ◌∙◌, ap, subst, arith, get_or-set_other, get_or-set_same, zero-add}
use Rattle.std.proofs.Math.ListN.{set, length-set}
use Rattle.std.specs.Prelude.{map}
use Rattle.std.specs.List.{range_with_len}
use Rattle.std.proofs.lemmas.Bool.{cases_eq, eq-eqb, ne_eqb}
use Rattle.std.proofs.lemmas.Grind.{same_number_lists}
use Rattle.std.proofs.lemmas.List.FromFn.{length-map-range_with_len, get_or-map-range_with_len}
use Rattle.elim_core.specs.Kept.{place_in, column_at, HasEntries, value_in, row_with}
use Rattle.elim_core.specs.Layout.{IsRow, IsSpan, IsCleared}
use Rattle.elim_core.specs.Solver.{IsAscending}

place_in-right : (u c : ℕ) → c ≡ 0 → place_in u c ≡ u
place_in-right u c none = rw (eq-eqb c 0 none) refl

place_in-unknown : (u c : ℕ) → c ≢ 0 → place_in u c ≡ c - 1
place_in-unknown u c some = rw (ne_eqb c 0 some) refl

pub place_in-low : (u c : ℕ) → c ≤ u → place_in u c < u + 1
place_in-low u c low =
    elim (cases_eq c 0) [
      | inl none ↦ omega (arith, place_in-right u c none)
      | inr some ↦ omega (arith, place_in-unknown u c some)
    ]

column_at-right : (u k : ℕ) → k ≡ u → column_at u k ≡ 0
column_at-right u k last = rw (eq-eqb k u last) refl

column_at-unknown : (u k : ℕ) → k ≢ u → column_at u k ≡ k + 1
column_at-unknown u k other = rw (ne_eqb k u other) refl

-- the place of a column tells it
column_of_place : (u c k : ℕ) → c ≤ u → place_in u c ≡ k → c ≡ column_at u k
column_of_place u c k low is =
    elim (cases_eq c 0) [
      | inl none ↦
          let last : k ≡ u = sym is ∙ place_in-right u c none in
          none ∙ sym (column_at-right u k last)
      | inr some ↦
          let there = place_in-unknown u c some in
          let other : k ≢ u = omega (arith, there, is) in
          omega (arith, there, is, column_at-unknown u k other)
    ]

place_of_column : (u k : ℕ) → k < u + 1 → place_in u (column_at u k) ≡ k
place_of_column u k low =
    elim (cases_eq k u) [
      | inl last ↦ place_in-right u (column_at u k) (column_at-right u k last) ∙ sym last
      | inr other ↦
          let is = column_at-unknown u k other in
          let some : column_at u k ≢ 0 = omega (arith, is) in
          omega (arith, place_in-unknown u (column_at u k) some, is)
    ]

same_column : (u a b : ℕ) → a ≤ u → b ≤ u → place_in u a ≡ place_in u b → a ≡ b
same_column u a b a_low b_low same = column_of_place u a (place_in u b) a_low same ∙ sym (column_of_place u b (place_in u b) b_low refl)

pub HasEntries-start : (u : ℕ) (row columns values : List ℕ) → IsCleared u row → HasEntries u row columns values 0
HasEntries-start u row columns values clear = record {
  room = clear.room;
  there = λ i low. absurd (omega arith);
  elsewhere = λ k low none. clear.zeros k low;
}

pub HasEntries-more : (u : ℕ) (row columns values : List ℕ) (n p v : ℕ) → HasEntries u row columns values n → n < length columns → IsAscending columns → ((i : ℕ) → i < length columns → get_or columns i 0 ≤ u) → p ≡ place_in u (get_or columns n 0) → v ≡ get_or values n 0 → HasEntries u (set row p v) columns values (n + 1)
HasEntries-more u row columns values n p v s low ascending columns_low p_is v_is =
    let p_low : p < length row = omega (arith, s.room, p_is, place_in-low u (get_or columns n 0) (columns_low n low)) in
    record {
      room = length-set row p v ∙ s.room;
      there = λ i i_low.
          elim (cases_eq i n) [
            | inl same ↦
                ap (λ x. get_or (set row p v) (place_in u (get_or columns x 0)) 0) same ∙
                ap (λ x. get_or (set row p v) x 0) (sym p_is) ∙
                get_or-set_same row p v 0 p_low ∙ v_is ∙ ap (λ x. get_or values x 0) (sym same)
            | inr earlier ↦
                let order = ascending i n (omega arith) low in
                let apart : place_in u (get_or columns i 0) ≢ p = λ same.
                omega (arith, order, same_column u (get_or columns i 0) (get_or columns n 0) (columns_low i (omega arith)) (columns_low n low) (same ∙ p_is)) in
                get_or-set_other row p (place_in u (get_or columns i 0)) v 0 apart ∙ s.there i (omega arith)
          ];
      elsewhere = λ k k_low none.
          let apart : k ≢ p = λ same. none n (omega arith) (sym p_is ∙ sym same) in
          get_or-set_other row p k v 0 apart ∙ s.elsewhere k k_low (λ i i_low. none i (omega arith));
    }

-- the value in a column of the list
value_in-at : (columns values : List ℕ) (i : ℕ) → length columns ≡ length values → IsAscending columns → i < length columns → value_in columns values (get_or columns i 0) ≡ get_or values i 0
value_in-at [] values i lengths ascending low = absurd (omega arith)
value_in-at (x ∷ columns) [] i lengths ascending low = absurd (omega arith)
value_in-at (x ∷ columns) (v ∷ values) zero lengths ascending low = rw (eq-eqb x x refl) refl
value_in-at (x ∷ columns) (v ∷ values) (suc i) lengths ascending low =
    let order = ascending 0 (suc i) (omega arith) low in
    let other : x ≢ get_or columns i 0 = omega (arith, order) in
    rw (ne_eqb x (get_or columns i 0) other)
    (value_in-at columns values i (omega arith) (λ j k before k_low. ascending (suc j) (suc k) (omega arith) (omega arith)) (omega arith))

value_in-none : (columns values : List ℕ) (n : ℕ) → ((i : ℕ) → i < length columns → get_or columns i 0 ≢ n) → value_in columns values n ≡ 0
value_in-none [] values n none = refl
value_in-none (x ∷ columns) [] n none = refl
value_in-none (x ∷ columns) (v ∷ values) n none =
    let other : x ≢ n = none 0 (omega arith) in
    rw (ne_eqb x n other) (value_in-none columns values n (λ i low. none (suc i) (omega arith)))

column_cases : (columns : List ℕ) (n : ℕ) → ((i : ℕ) × (i < length columns) × (get_or columns i 0 ≡ n)) ⊎ ((i : ℕ) → i < length columns → get_or columns i 0 ≢ n)
column_cases [] n = inr (λ i low. absurd (omega arith))
column_cases (x ∷ columns) n =
    elim (cases_eq x n) [
      | inl first ↦ inl (0, omega arith, first)
      | inr other ↦
          elim (column_cases columns n) [
            | inl found ↦ inl (suc found.0, omega (arith, found.1), found.2)
            | inr none ↦ inr (λ i low. past x columns n other none i low)
          ]
    ]
  where
    past : (x : ℕ) (columns : List ℕ) (n : ℕ) → x ≢ n → ((i : ℕ) → i < length columns → get_or columns i 0 ≢ n) → (i : ℕ) → i < length (x ∷ columns) → get_or (x ∷ columns) i 0 ≢ n
    past x columns n other none zero low = other
    past x columns n other none (suc i) low = none i (omega arith)

module _ (m u : ℕ) (row columns values : List ℕ) (ascending : IsAscending columns) (lengths : length columns ≡ length values) (columns_low : (i : ℕ) → i < length columns → get_or columns i 0 ≤ u) (s : HasEntries u row columns values (length columns)) where
  row_at : (k : ℕ) → k < u + 1 → get_or row k 0 ≡ value_in columns values (column_at u k)
  row_at k low =
      elim (column_cases columns (column_at u k)) [
        | inl found ↦
            ap (λ x. get_or row x 0) (sym (ap (place_in u) found.2 ∙ place_of_column u k low)) ∙
            s.there found.0 found.1 ∙
            sym (value_in-at columns values found.0 lengths ascending found.1) ∙
            ap (value_in columns values) found.2
        | inr none ↦
            s.elsewhere k low (λ i i_low same. none i i_low (column_of_place u (get_or columns i 0) k (columns_low i i_low) same)) ∙
            sym (value_in-none columns values (column_at u k) none)
      ]

  -- the row is that of the entries
  pub entries_row : row ≡ row_with u columns values
  unfolding row_with
  entries_row =
      same_number_lists row (map (λ k. value_in columns values (column_at u k)) (range_with_len 0 (u + 1)))
      (s.room ∙ sym (length-map-range_with_len (λ k. value_in columns values (column_at u k)) 0 (u + 1)))
      (λ k low.
      let k_low : k < u + 1 = omega (arith, s.room) in
      row_at k k_low ∙
      sym (get_or-map-range_with_len (λ i. value_in columns values (column_at u i)) 0 (u + 1) k k 0 k_low (zero-add k)))

  pub entries_residues : 0 < m → ((i : ℕ) → i < length values → get_or values i 0 < m) → IsRow m u (row_with u columns values)
  entries_residues positive low = subst (λ (r : List ℕ). IsRow m u r) entries_row (record {
    room = s.room;
    residues = λ k k_low.
        elim (column_cases columns (column_at u k)) [
          | inl found ↦
              subst (λ (x : ℕ). x < m)
              (sym (ap (λ x. get_or row x 0) (sym (ap (place_in u) found.2 ∙ place_of_column u k k_low)) ∙ s.there found.0 found.1))
              (low found.0 (omega (arith, found.1)))
          | inr none ↦ omega (arith, row_at k k_low, value_in-none columns values (column_at u k) none)
        ];
  })

  pub entries_span : (first end : ℕ) → ((i : ℕ) → i < length columns → get_or columns i 0 ≢ 0 → first < get_or columns i 0) → ((i : ℕ) → i < length columns → get_or columns i 0 ≤ end) → first < u + 1 → IsSpan u (row_with u columns values) first end
  entries_span first end firsts ends first_low = subst (λ (r : List ℕ). IsSpan u r first end) entries_row (record {
    before = λ k low. s.elsewhere k (omega arith) (λ i i_low same.
        elim (cases_eq (get_or columns i 0) 0) [
          | inl none ↦ omega (arith, place_in-right u (get_or columns i 0) none, same)
          | inr some ↦ omega (arith, place_in-unknown u (get_or columns i 0) some, same, firsts i i_low some)
        ]);
    beyond = λ k above low. s.elsewhere k (omega arith) (λ i i_low same.
        elim (cases_eq (get_or columns i 0) 0) [
          | inl none ↦ omega (arith, place_in-right u (get_or columns i 0) none, same)
          | inr some ↦ omega (arith, place_in-unknown u (get_or columns i 0) some, same, ends i i_low)
        ]);
  })
