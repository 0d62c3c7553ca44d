-- Vectors at which each row leaves 0 tell the unknowns, where the kept rows leave no other choice than that on the set.
use Rattle.std.proofs.Common.{◌≡◌, ◌≢◌, ℕ, zero, suc, ◌+◌, ◌*◌, ◌-◌, ◌%◌, ◌<◌, Bool, true, false, List, length, get_or, All, inl, inr, refl, sym, ◌∙◌, ap, subst, arith}
use Rattle.std.proofs.lemmas.Bool.{cases_eq, cases_lt}
use Rattle.std.proofs.Math.Nat.{mod-eq_of_lt, mod-lt, mod-mod, zero-mod}
use Rattle.prime_field.specs.Sum.{sum_to}
use Rattle.prime_field.proofs.Residues.{add-cong, mul-cong}
use Rattle.prime_field.proofs.Sums.{sum-same, sum-cong, sum-add_scaled, sum-scaled, sum-pick}
use Rattle.elim_core.specs.Solved.{IsSolved}
use Rattle.elim_core.specs.Solver.{AreUnknowns, IsAscending, IsSolverValue, has_number}
use Rattle.elim_core.specs.Sparse.{AreSparseRows, entries_of, rows_with}
use Rattle.elim_core.specs.declared.SparseRow.{SparseRow}
use Rattle.elim_core.proofs.Choices.{has_number-index, index-has_number}
use Rattle.elim_core.proofs.OwnSets.{solved_residues}
use Rattle.elim_core.proofs.Told.{bool_cases, sum-none, sum_swap}
use Rattle.sparse_solver.specs.Order.{AreStarts}
use Rattle.sparse_solver.specs.Packed.{RowsVanish, values_of}
use Rattle.sparse_solver.specs.Steps.{AreSteps, KeptVanish, kept_in}
use Rattle.sparse_solver.specs.Told.{HasColumns, IsVector}
use Rattle.sparse_solver.specs.declared.steps.Steps.{Steps}
use Rattle.sparse_solver.proofs.Bridge.{all_satisfied, numbers_at, numbers_at-right, numbers_at-unknown}
use Rattle.sparse_solver.proofs.Leads.{same_vectors}

-- multiples of vectors at which a row leaves 0, and one more such vector
row_told : (m u n : ℕ) (a column : ℕ → ℕ) (c : ℕ → ℕ → ℕ) (d z w : ℕ → ℕ) → ((k : ℕ) → k < u → sum_to n (λ i. a i * c k (column i)) % m ≡ 0) → sum_to n (λ i. a i * d (column i)) % m ≡ 0 →
    ((i : ℕ) → i < n → w (column i) % m ≡ (sum_to u (λ k. c k (column i) * z k) + d (column i)) % m) → sum_to n (λ i. a i * w (column i)) % m ≡ 0
row_told m u n a column c d z w none d_none is =
    sum-cong m n (λ i. a i * w (column i)) (λ i. a i * d (column i) + 1 * (a i * sum_to u (λ k. c k (column i) * z k))) (λ i low.
    mul-cong m (a i) (a i) (w (column i)) (sum_to u (λ k. c k (column i) * z k) + d (column i)) refl (is i low) ∙
    ap (λ t. t % m) (omega arith)) ∙
    ap (λ t. t % m) (sum-add_scaled n 1 (λ i. a i * d (column i)) (λ i. a i * sum_to u (λ k. c k (column i) * z k))) ∙
    add-cong m (sum_to n (λ i. a i * d (column i))) 0 (1 * sum_to n (λ i. a i * sum_to u (λ k. c k (column i) * z k))) 0
    (d_none ∙ sym (zero-mod m)) (ap (λ t. t % m) (omega arith) ∙ multiples_none ∙ sym (zero-mod m)) ∙
    zero-mod m
  where
    multiples_none : sum_to n (λ i. a i * sum_to u (λ k. c k (column i) * z k)) % m ≡ 0
    multiples_none =
        ap (λ t. t % m) (
        sum-same n (λ i. a i * sum_to u (λ k. c k (column i) * z k)) (λ i. sum_to u (λ k. a i * (c k (column i) * z k)))
        (λ i low. sym (sum-scaled u (a i) (λ k. c k (column i) * z k))) ∙
        sum_swap n u (λ i k. a i * (c k (column i) * z k))) ∙
        sum-none m u (λ k. sum_to n (λ i. a i * (c k (column i) * z k))) (λ k low.
        ap (λ t. t % m) (
        sum-same n (λ i. a i * (c k (column i) * z k)) (λ i. z k * (a i * c k (column i))) (λ i i_low. omega arith) ∙
        sum-scaled n (z k) (λ i. a i * c k (column i))) ∙
        mul-cong m (z k) (z k) (sum_to n (λ i. a i * c k (column i))) 0 refl (none k low ∙ sym (zero-mod m)) ∙
        ap (λ t. t % m) (omega arith) ∙ zero-mod m)

-- a vector where the test holds, and else zeros
pick : (b : Bool) → (b ≡ true → ℕ → ℕ) → ℕ → ℕ
pick true f = f refl
pick false f = λ k. 0

pick-in : (b : Bool) (f : b ≡ true → ℕ → ℕ) (P : (ℕ → ℕ) → Type 0) → ((e : b ≡ true) → P (f e)) → b ≡ true → P (pick b f)
unfolding pick
pick-in true f P all is = all refl
pick-in false f P all is = absurd (cc)

pick-out : (b : Bool) (f : b ≡ true → ℕ → ℕ) (k : ℕ) → b ≡ false → pick b f k ≡ 0
unfolding pick
pick-out true f k is = absurd (cc)
pick-out false f k is = refl

module _ (m u : ℕ) (rows : List SparseRow) (starts values : List ℕ) (s : Steps) (set want kept inverses out : List ℕ) (large : 1 < m)
    (sparse : AreSparseRows u rows) (begun : AreStarts rows starts) (entries : length values ≡ entries_of rows) (low : (i : ℕ) → i < length values → get_or values i 0 < m)
    (steps : AreSteps u rows set s) (ascending : IsAscending set) (numbers : AreUnknowns u set) (want_low : AreUnknowns u want) (room : length out ≡ length want * (length set + 1))
    (vanish : (w : ℕ → ℕ) → RowsVanish m rows starts values w → KeptVanish m s kept (kept_in s) w)
    (units : (t : ℕ) → t < kept_in s → (get_or kept (get_or s.leads.items t 0) 0 * get_or inverses t 0) % m ≡ 1)
    (columns : HasColumns m u s rows starts values set want (length set) out) where
  -- the vector for a number of the set
  vector_for : (number : ℕ) → has_number set number ≡ true → ℕ → ℕ
  vector_for number is =
      let found = has_number-index set number is in
      (columns.multiples found.0 found.1).w

  for_number : (number : ℕ) (is : has_number set number ≡ true) → IsVector m u s rows starts values number 1 (vector_for number is)
  unfolding vector_for
  for_number number is =
      let found = has_number-index set number is in
      subst (λ (n : ℕ). IsVector m u s rows starts values n 1 (columns.multiples found.0 found.1).w) found.2 (columns.multiples found.0 found.1).vector

  -- that for the unknown at place k, or zeros where it is not in the set
  multiple : ℕ → ℕ → ℕ
  multiple k = pick (has_number set (k + 1)) (vector_for (k + 1))

  constant : ℕ → ℕ
  constant = columns.constants.w

  constant-vector : IsVector m u s rows starts values 0 (m - 1) constant
  unfolding constant
  constant-vector = columns.constants.vector

  multiple-vector : (k : ℕ) → has_number set (k + 1) ≡ true → IsVector m u s rows starts values (k + 1) 1 (multiple k)
  unfolding multiple
  multiple-vector k is =
      pick-in (has_number set (k + 1)) (vector_for (k + 1)) (λ w. IsVector m u s rows starts values (k + 1) 1 w) (for_number (k + 1)) is

  multiple-out : (k column : ℕ) → has_number set (k + 1) ≡ false → multiple k column ≡ 0
  unfolding multiple
  multiple-out k column not = pick-out (has_number set (k + 1)) (vector_for (k + 1)) column not

  multiple-low : (k column : ℕ) → column < u + 1 → multiple k column < m
  multiple-low k column column_low =
      elim (bool_cases (has_number set (k + 1))) [
        | inl is ↦ (multiple-vector k is).residues column column_low
        | inr not ↦ subst (λ (x : ℕ). x < m) (sym (multiple-out k column not)) (omega arith)
      ]

  multiple-none : (k : ℕ) → RowsVanish m rows starts values (multiple k)
  multiple-none k i row at =
      elim (bool_cases (has_number set (k + 1))) [
        | inl is ↦ (multiple-vector k is).vanishes i row at
        | inr not ↦
            sum-none m (length row.columns) (λ e. get_or (values_of values (get_or starts i 0) row) e 0 * multiple k (get_or row.columns e 0)) (λ e e_low.
            ap (λ x. (get_or (values_of values (get_or starts i 0) row) e 0 * x) % m) (multiple-out k (get_or row.columns e 0) not) ∙
            ap (λ t. t % m) (omega arith) ∙ zero-mod m)
      ]

  -- no kept row begins at an unknown of the set
  free : (j : ℕ) → j < u → has_number set (j + 1) ≡ true → get_or s.turn_of.items (j + 1) 0 ≡ 0
  free j j_low is =
      elim (cases_eq (get_or s.turn_of.items (j + 1) 0) 0) [
        | inl none ↦ none
        | inr begins ↦
            let not : has_number set (j + 1) ≡ false = (steps.led (j + 1) (omega arith) (omega arith)).unchosen begins in
            absurd (cc)
      ]

  multiple-own : (j : ℕ) → j < u → has_number set (j + 1) ≡ true → multiple j (j + 1) ≡ 1
  multiple-own j j_low is = (multiple-vector j is).there (free j j_low is)

  multiple-others : (j k : ℕ) → j < u → has_number set (j + 1) ≡ true → j ≢ k → multiple k (j + 1) ≡ 0
  multiple-others j k j_low is other =
      elim (bool_cases (has_number set (k + 1))) [
        | inl k_is ↦ (multiple-vector k k_is).others (j + 1) (omega arith) (λ same. other (omega (arith, same))) (free j j_low is)
        | inr not ↦ multiple-out k (j + 1) not
      ]

  multiple-right : (k : ℕ) → multiple k 0 ≡ 0
  multiple-right k =
      elim (bool_cases (has_number set (k + 1))) [
        | inl is ↦ (multiple-vector k is).others 0 (omega arith) (λ same. absurd (omega (arith, same))) steps.turns_of.right
        | inr not ↦ multiple-out k 0 not
      ]

  constant-own : (j : ℕ) → j < u → has_number set (j + 1) ≡ true → constant (j + 1) ≡ 0
  constant-own j j_low is = constant-vector.others (j + 1) (omega arith) (λ same. absurd (omega (arith, same))) (free j j_low is)

  constant-right : constant 0 ≡ m - 1
  constant-right = constant-vector.there steps.turns_of.right

  -- what a choice tells
  told : (ℕ → ℕ) → ℕ → ℕ
  told z column = (sum_to u (λ k. multiple k column * z k) + constant column) % m

  told-low : (z : ℕ → ℕ) (column : ℕ) → told z column < m
  unfolding told
  told-low z column = mod-lt (sum_to u (λ k. multiple k column * z k) + constant column) (omega arith)

  told-vanishes : (z w : ℕ → ℕ) → ((column : ℕ) → column < u + 1 → w column ≡ told z column) → RowsVanish m rows starts values w
  unfolding told
  told-vanishes z w is i row at =
      row_told m u (length row.columns) (λ e. get_or (values_of values (get_or starts i 0) row) e 0) (λ e. get_or row.columns e 0) multiple constant z w
      (λ k k_low. multiple-none k i row at) (constant-vector.vanishes i row at)
      (λ e e_low.
      ap (λ t. t % m) (is (get_or row.columns e 0) (omega (arith, (sparse i row at).within e e_low))) ∙
      mod-mod (sum_to u (λ k. multiple k (get_or row.columns e 0) * z k) + constant (get_or row.columns e 0)) m)

  told-right : (z : ℕ → ℕ) → told z 0 ≡ m - 1
  unfolding told
  told-right z =
      let none : sum_to u (λ k. multiple k 0 * z k) ≡ 0 =
      sum-same u (λ k. multiple k 0 * z k) (λ k. 0 * 0) (λ k k_low. ap (λ x. x * z k) (multiple-right k) ∙ omega arith) ∙ sum-scaled u 0 (λ k. 0) ∙ omega arith in
      ap (λ t. t % m) (omega (arith, none, constant-right)) ∙ mod-eq_of_lt (omega arith)

  told-own : (z : ℕ → ℕ) → ((k : ℕ) → k < u → z k < m) → (j : ℕ) → j < u → has_number set (j + 1) ≡ true → told z (j + 1) ≡ z j
  unfolding told
  told-own z z_low j j_low is =
      let picked : sum_to u (λ k. multiple k (j + 1) * z k) ≡ multiple j (j + 1) * z j =
      sum-pick u j (λ k. multiple k (j + 1) * z k) j_low (λ k k_low other.
      ap (λ x. x * z k) (multiple-others j k j_low is (λ same. other (sym same))) ∙ omega arith) in
      ap (λ t. t % m) (omega (arith, picked, ap (λ x. x * z j) (multiple-own j j_low is), constant-own j j_low is)) ∙
      mod-eq_of_lt (z_low j j_low)

  -- a solution is what its own choice tells
  solution_told : (zs : List ℕ) → length zs ≡ u → ((k : ℕ) → k < u → get_or zs k 0 < m) → RowsVanish m rows starts values (numbers_at m zs) → (column : ℕ) → column < u + 1 → numbers_at m zs column ≡ told (λ k. get_or zs k 0) column
  solution_told zs width zs_low zs_vanish =
      let z : ℕ → ℕ = λ k. get_or zs k 0 in
      same_vectors m u rows set s kept inverses large steps units (numbers_at m zs) (told z) (at_low zs zs_low) (λ column column_low. told-low z column)
      (vanish (numbers_at m zs) zs_vanish) (vanish (told z) (told-vanishes z (told z) (λ column column_low. refl)))
      (numbers_at-right m zs ∙ sym (told-right z)) (chosen zs zs_low)
    where
      at_low : (zs : List ℕ) → ((k : ℕ) → k < u → get_or zs k 0 < m) → (k : ℕ) → k < u + 1 → numbers_at m zs k < m
      at_low zs zs_low zero k_low = subst (λ (x : ℕ). x < m) (sym (numbers_at-right m zs)) (omega arith)
      at_low zs zs_low (suc k) k_low =
          let next : k + 1 ≡ suc k = omega arith in
          subst (λ (x : ℕ). x < m) (sym (numbers_at-unknown m zs k) ∙ ap (numbers_at m zs) next) (zs_low k (omega arith))

      chosen : (zs : List ℕ) → ((k : ℕ) → k < u → get_or zs k 0 < m) → (j : ℕ) → 0 < j → j < u + 1 → has_number set j ≡ true → numbers_at m zs j ≡ told (λ k. get_or zs k 0) j
      chosen zs zs_low zero some j_low is = absurd (omega arith)
      chosen zs zs_low (suc j) some j_low is =
          let next : suc j ≡ j + 1 = omega arith in
          ap (numbers_at m zs) next ∙ numbers_at-unknown m zs j ∙
          sym (told-own (λ k. get_or zs k 0) zs_low j (omega arith) (ap (has_number set) (sym next) ∙ is)) ∙
          ap (told (λ k. get_or zs k 0)) (sym next)

  told_numbers : (zs : List ℕ) → ((j : ℕ) → j < u → get_or zs j 0 ≡ told (λ k. get_or zs k 0) (j + 1)) → (column : ℕ) → column < u + 1 → numbers_at m zs column ≡ told (λ k. get_or zs k 0) column
  told_numbers zs is zero column_low = numbers_at-right m zs ∙ sym (told-right (λ k. get_or zs k 0))
  told_numbers zs is (suc j) column_low =
      let next : suc j ≡ j + 1 = omega arith in
      ap (numbers_at m zs) next ∙ numbers_at-unknown m zs j ∙ is j (omega arith) ∙ ap (told (λ k. get_or zs k 0)) (sym next)

  -- the vectors tell the unknowns
  value_told : IsSolverValue m u (rows_with u rows values) set (λ j k. multiple k (j + 1)) (λ j. constant (j + 1))
  unfolding told
  value_told = record {
    residues = λ j k j_low k_low. multiple-low k (j + 1) (omega arith);
    constants = λ j j_low. constant-vector.residues (j + 1) (omega arith);
    outside = λ j k j_low k_low not. multiple-out k (j + 1) not;
    own = multiple-own;
    own_others = λ j k j_low k_low is other. multiple-others j k j_low is other;
    own_constant = constant-own;
    exact = λ zs width zs_low. (
      λ solves j j_low.
          sym (numbers_at-unknown m zs j) ∙
          solution_told zs width zs_low ((all_satisfied m u rows starts values zs (omega arith) width sparse begun entries low).1 solves.each) (j + 1) (omega arith),
      λ is. record {
        width = width;
        residues = zs_low;
        each = (all_satisfied m u rows starts values zs (omega arith) width sparse begun entries low).0
            (told-vanishes (λ k. get_or zs k 0) (numbers_at m zs) (told_numbers zs is));
      },
    );
  }

  -- an index of an ascending list is told by its number
  same_index : (i j : ℕ) → i < length set → j < length set → get_or set i 0 ≡ get_or set j 0 → i ≡ j
  same_index i j i_low j_low same =
      elim (cases_lt i j) [
        | inl before ↦ absurd (omega (arith, ascending i j before j_low, same))
        | inr not_before ↦
            elim (cases_lt j i) [
              | inl after ↦ absurd (omega (arith, ascending j i after i_low, same))
              | inr not_after ↦ omega (arith, not_before, not_after)
            ]
      ]

  number-next : (list : List ℕ) → AreUnknowns u list → (i : ℕ) → i < length list → get_or list i 0 - 1 + 1 ≡ get_or list i 0
  number-next list all i i_low = omega (arith, (all i i_low).0)

  written_multiple : (t i : ℕ) → t < length want → i < length set → get_or out (t * (length set + 1) + i) 0 ≡ multiple (get_or set i 0 - 1) (get_or want t 0 - 1 + 1)
  unfolding multiple vector_for
  written_multiple t i t_low i_low =
      let number = get_or set i 0 - 1 + 1 in
      let number_is : number ≡ get_or set i 0 = number-next set numbers i i_low in
      pick-in (has_number set number) (vector_for number) (λ w. get_or out (t * (length set + 1) + i) 0 ≡ w (get_or want t 0 - 1 + 1))
      (λ e.
      let found = has_number-index set number e in
      let same : found.0 ≡ i = same_index found.0 i found.1 i_low (found.2 ∙ number_is) in
      ap (λ n. get_or out (t * (length set + 1) + n) 0) (sym same) ∙
      (columns.multiples found.0 found.1).written t t_low ∙
      ap (columns.multiples found.0 found.1).w (sym (number-next want want_low t t_low)))
      (index-has_number set i number i_low (sym number_is))

  -- and so the list does
  pub list_told : IsSolved m u (rows_with u rows values) set want out
  unfolding constant
  list_told = record {
    told_by = numbers;
    wanted = want_low;
    room = room;
    solved = record {
      c = λ j k. multiple k (j + 1);
      d = λ j. constant (j + 1);
      tells = value_told;
      multiples = written_multiple;
      constants = λ t t_low. columns.constants.written t t_low ∙ ap columns.constants.w (sym (number-next want want_low t t_low));
    };
  }

  pub list_residues : All (λ x. x < m) out
  list_residues = solved_residues m u (rows_with u rows values) set want out numbers want_low room list_told.solved
