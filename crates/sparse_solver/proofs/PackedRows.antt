-- Sums of packed rows, and of the row at hand while they are added to it and taken from it.
use Rattle.std.proofs.Common.{◌≡◌, ℕ, ◌+◌, ◌*◌, ◌%◌, ◌<◌, List, length, get_or, set, inl, inr, refl, sym, ◌∙◌, ap, subst, add-one, length-set, arith}
use Rattle.std.proofs.lemmas.Bool.{cases_eq}
use Rattle.std.proofs.lemmas.List.{get_or-set_same, get_or-set_other}
use Rattle.std.proofs.Math.Nat.{mod-mod, zero-mod}
use Rattle.prime_field.specs.Sum.{sum_to}
use Rattle.prime_field.proofs.Residues.{add-cong, mul-cong, cancel}
use Rattle.prime_field.proofs.Sums.{sum-same, sum_differ}
use Rattle.std.specs.Prelude.{Some, slice_get, slice_index}
use Rattle.elim_core.specs.declared.SparseRow.{SparseRow}
use Rattle.sparse_solver.specs.Packed.{IsOutside, IsRowAt, packed_sum, row_sum, values_of}

-- a sum with one more term
pub sum-more : (n : ℕ) (f : ℕ → ℕ) → sum_to (n + 1) f ≡ sum_to n f + f n
sum-more n f = ap (λ k. sum_to k f) (add-one n)

-- one more term was added
pub summed_more : (m n before now : ℕ) (f : ℕ → ℕ) → now % m ≡ (before + f n) % m → before % m ≡ sum_to n f % m → now % m ≡ sum_to (n + 1) f % m
summed_more m n before now f is so_far = is ∙ add-cong m before (sum_to n f) (f n) (f n) so_far refl ∙ ap (λ t. t % m) (sym (sum-more n f))

-- the row at hand with another word in one column
pub row_sum-set : (row : List ℕ) (k x : ℕ) (w : ℕ → ℕ) → k < length row → row_sum (set row k x) w + get_or row k 0 * w k ≡ row_sum row w + x * w k
row_sum-set row k x w low =
    ap (λ n. sum_to n (λ i. get_or (set row k x) i 0 * w i) + get_or row k 0 * w k) (length-set row k x) ∙
    sum_differ (length row) k (λ i. get_or (set row k x) i 0 * w i) (λ i. get_or row i 0 * w i) low (λ i i_low other.
    ap (λ y. y * w i) (get_or-set_other row k i x 0 other)) ∙
    ap (λ y. row_sum row w + y * w k) (get_or-set_same row k x 0 low)

-- the same modulo m, where the word was raised by a
pub row_sum-raised : (m : ℕ) (row : List ℕ) (k x a : ℕ) (w : ℕ → ℕ) → k < length row → x ≡ (get_or row k 0 + a) % m → row_sum (set row k x) w % m ≡ (row_sum row w + a * w k) % m
row_sum-raised m row k x a w low is =
    cancel m (row_sum (set row k x) w) (row_sum row w + a * w k) (get_or row k 0 * w k) (
    ap (λ t. t % m) (row_sum-set row k x w low) ∙
    add-cong m (row_sum row w) (row_sum row w) (x * w k) ((get_or row k 0 + a) * w k) refl
    (mul-cong m x (get_or row k 0 + a) (w k) (w k) (ap (λ t. t % m) is ∙ mod-mod (get_or row k 0 + a) m) refl) ∙
    ap (λ t. t % m) (omega arith))

-- one more entry of a packed row was added
pub added_more : (m : ℕ) (first row columns values : List ℕ) (i x factor : ℕ) (w : ℕ → ℕ) → get_or columns i 0 < length row → x ≡ (get_or row (get_or columns i 0) 0 + factor * get_or values i 0) % m →
    row_sum row w % m ≡ (row_sum first w + factor * sum_to i (λ k. get_or values k 0 * w (get_or columns k 0))) % m →
    row_sum (set row (get_or columns i 0) x) w % m ≡ (row_sum first w + factor * sum_to (i + 1) (λ k. get_or values k 0 * w (get_or columns k 0))) % m
added_more m first row columns values i x factor w low is so_far =
    row_sum-raised m row (get_or columns i 0) x (factor * get_or values i 0) w low is ∙
    add-cong m (row_sum row w) (row_sum first w + factor * sum_to i (λ k. get_or values k 0 * w (get_or columns k 0)))
    (factor * get_or values i 0 * w (get_or columns i 0)) (factor * get_or values i 0 * w (get_or columns i 0)) so_far refl ∙
    ap (λ t. t % m) (omega arith) ∙
    ap (λ t. (row_sum first w + factor * t) % m) (sym (sum-more i (λ k. get_or values k 0 * w (get_or columns k 0))))

-- one more entry was taken from the row at hand
pub taken_more : (first row columns values : List ℕ) (i : ℕ) (w : ℕ → ℕ) → get_or columns i 0 < length row → i < length values →
    row_sum row w + sum_to i (λ k. get_or values k 0 * w (get_or columns k 0)) ≡ row_sum first w →
    row_sum (set row (get_or columns i 0) 0) w + sum_to (i + 1) (λ k. get_or (set values i (get_or row (get_or columns i 0) 0)) k 0 * w (get_or columns k 0)) ≡ row_sum first w
taken_more first row columns values i w low room so_far =
    let word = get_or row (get_or columns i 0) 0 in
    let before : sum_to i (λ k. get_or (set values i word) k 0 * w (get_or columns k 0)) ≡ sum_to i (λ k. get_or values k 0 * w (get_or columns k 0)) =
    sum-same i _ _ (λ k k_low. ap (λ y. y * w (get_or columns k 0)) (get_or-set_other values i k word 0 (omega arith))) in
    let last : get_or (set values i word) i 0 * w (get_or columns i 0) ≡ word * w (get_or columns i 0) = ap (λ y. y * w (get_or columns i 0)) (get_or-set_same values i word 0 room) in
    omega (
      arith,
      so_far,
      before,
      last,
      row_sum-set row (get_or columns i 0) 0 w low,
      sum-more i (λ k. get_or (set values i word) k 0 * w (get_or columns k 0)),
    )

-- one more word below m was taken
pub below_more : (m : ℕ) (values : List ℕ) (i x : ℕ) → i < length values → x < m → ((k : ℕ) → k < i → get_or values k 0 < m) → (k : ℕ) → k < i + 1 → get_or (set values i x) k 0 < m
below_more m values i x room low so_far k k_low =
    elim (cases_eq k i) [
      | inl last ↦ subst (λ (y : ℕ). y < m) (sym (ap (λ n. get_or (set values i x) n 0) last ∙ get_or-set_same values i x 0 room)) low
      | inr other ↦ subst (λ (y : ℕ). y < m) (sym (get_or-set_other values i k x 0 other)) (so_far k (omega (arith, other)))
    ]

-- a zero more, and zeros stay
pub cleared_more : (row columns : List ℕ) (i : ℕ) → get_or columns i 0 < length row → ((k : ℕ) → k < i → get_or row (get_or columns k 0) 0 ≡ 0) → (k : ℕ) → k < i + 1 → get_or (set row (get_or columns i 0) 0) (get_or columns k 0) 0 ≡ 0
cleared_more row columns i low so_far k k_low =
    elim (cases_eq (get_or columns k 0) (get_or columns i 0)) [
      | inl same ↦ ap (λ p. get_or (set row (get_or columns i 0) 0) p 0) same ∙ get_or-set_same row (get_or columns i 0) 0 0 low
      | inr other ↦
          get_or-set_other row (get_or columns i 0) (get_or columns k 0) 0 0 other ∙
          elim (cases_eq k i) [
            | inl last ↦ absurd (other (ap (λ n. get_or columns n 0) last))
            | inr before ↦ so_far k (omega (arith, before))
          ]
    ]

-- what is outside stays
pub outside_more : (first row columns : List ℕ) (i x : ℕ) → i < length columns → ((k : ℕ) → IsOutside columns k → get_or row k 0 ≡ get_or first k 0) → (k : ℕ) → IsOutside columns k → get_or (set row (get_or columns i 0) x) k 0 ≡ get_or first k 0
outside_more first row columns i x low so_far k outside =
    get_or-set_other row (get_or columns i 0) k x 0 (λ e. outside i low (sym e)) ∙ so_far k outside

-- a multiple of a row whose sum leaves 0 changes no sum
pub added_none : (m now before factor sum : ℕ) → now % m ≡ (before + factor * sum) % m → sum % m ≡ 0 → now % m ≡ before % m
added_none m now before factor sum is none =
    is ∙
    add-cong m before before (factor * sum) (factor * 0) refl (mul-cong m factor factor sum 0 refl (none ∙ sym (zero-mod m))) ∙
    ap (λ t. t % m) (omega arith)

-- the sum of the same row
pub packed_along : (m : ℕ) (columns values columns' values' : List ℕ) (w : ℕ → ℕ) → columns' ≡ columns → values' ≡ values → packed_sum columns values w % m ≡ 0 → packed_sum columns' values' w % m ≡ 0
packed_along m columns values columns' values' w same_columns same_values is =
    ap (λ c. packed_sum c values' w % m) same_columns ∙ ap (λ v. packed_sum columns v w % m) same_values ∙ is

-- one more row of the system leaves 0
pub tested_more : (m : ℕ) (rows : List SparseRow) (starts values : List ℕ) (number : ℕ) (columns part : List ℕ) (w : ℕ → ℕ) → IsRowAt rows starts values number columns part → packed_sum columns part w % m ≡ 0 →
    ((i : ℕ) (row : SparseRow) → i < number → slice_get rows i ≡ Some row → packed_sum row.columns (values_of values (get_or starts i 0) row) w % m ≡ 0) →
    (i : ℕ) (row : SparseRow) → i < number + 1 → slice_get rows i ≡ Some row → packed_sum row.columns (values_of values (get_or starts i 0) row) w % m ≡ 0
tested_more m rows starts values number columns part w here none so_far i row low at =
    elim (cases_eq i number) [
      | inr other ↦ so_far i row (omega (arith, other)) at
      | inl last ↦
          let same_option : Some row ≡ Some here.row = sym at ∙ ap (slice_get rows) last ∙ here.at in
          let same : here.row ≡ row = cc in
          let place : slice_index starts number ≡ get_or starts i 0 = ap (slice_index starts) (sym last) in
          packed_along m columns part row.columns (values_of values (get_or starts i 0) row) w
          (sym (here.columns_are ∙ ap (λ r. r.columns) same))
          (sym (here.values_are ∙ ap (λ r. values_of values (slice_index starts number) r) same ∙ ap (λ n. values_of values n row) place))
          none
    ]
