-- Orders of rows while they are made.
use Rattle.std.proofs.Common.{◌≡◌, ℕ, ◌+◌, ◌<◌, ◌≤◌, List, [], ◌∷◌, ◌++◌, All, Contains, length, take, get_or, inl, inr, sym, ◌∙◌, ap, subst, arith}
use Rattle.std.proofs.lemmas.Bool.{cases_lt}
use Rattle.std.proofs.lemmas.List.{get_or_append_left, get_or_push, length_push, take_all}
use Rattle.std.proofs.lemmas.List.Elements.{All-contains, All-more, All-push, All-append, Contains-append_cases, Contains-append_left, Contains-append_right, Contains-push}
use Rattle.std.proofs.lemmas.List.Sorted.{All-permutation, Contains-permutation}
use Rattle.std.specs.List.Sorted.{IsPermutation}
use Rattle.std.specs.Prelude.{Some, slice_get}
use Rattle.elim_core.specs.Sparse.{entries_of}
use Rattle.elim_core.specs.declared.SparseRow.{SparseRow}
use Rattle.sparse_solver.specs.Order.{TakesEach}
use Rattle.sparse_solver.proofs.Systems.{entries-more}

-- the starts of the first rows, and of the next one
pub record StartsSoFar (rows : List SparseRow) (starts : List ℕ) (next at : ℕ) : Type 0 where
  pub room : length starts ≡ at
  pub each : (k : ℕ) → k < at → get_or starts k 0 ≡ entries_of (take k rows)
  pub next_is : next ≡ entries_of (take at rows)

-- an order with the numbers moved stays one
pub TakesEach-permutation : (count : ℕ) (order now : List ℕ) → IsPermutation order now → TakesEach count order → TakesEach count now
TakesEach-permutation count order now moved takes = record {
  within = All-permutation (λ k. k < count) order now moved takes.within;
  every = λ k low. Contains-permutation order now k moved (takes.every k low);
}

-- the rows taken so far stand in one of two lists
pub record TakesSoFar (count : ℕ) (order cutting following : List ℕ) (at : ℕ) : Type 0 where
  pub cutting_low : All (λ k. k < count) cutting
  pub following_low : All (λ k. k < count) following
  pub each : All (λ k. Contains (cutting ++ following) k) (take at order)

pub Starts-more : (rows : List SparseRow) (starts : List ℕ) (next at end : ℕ) (row : SparseRow) → slice_get rows at ≡ Some row → StartsSoFar rows starts next at → end ≡ next + length row.columns → StartsSoFar rows (starts ++ next ∷ []) end (at + 1)
Starts-more rows starts next at end row here so_far end_is = record {
  room = length_push starts next ∙ ap (λ n. n + 1) so_far.room;
  each = λ k low. elim (cases_lt k at) [
    | inl before ↦ get_or_append_left starts (next ∷ []) 0 k (omega (arith, so_far.room)) ∙ so_far.each k before
    | inr past ↦
        let last : k ≡ length starts = omega (arith, so_far.room, past, low) in
        let place : k ≡ at = omega (arith, so_far.room, last) in
        get_or_push starts next 0 k (sym last) ∙ so_far.next_is ∙ ap (λ n. entries_of (take n rows)) (sym place)
  ];
  next_is = end_is ∙ ap (λ n. n + length row.columns) so_far.next_is ∙ sym (entries-more rows at row here);
}

-- the numbers below a count, in their order
pub TakesEach-upto : (count at : ℕ) (order : List ℕ) → count ≤ at → All (λ k. k < count) order → ((k : ℕ) → k < at → Contains order k) → TakesEach count order
TakesEach-upto count at order past low every = record { within = low; every = λ k k_low. every k (omega arith) }

pub Upto-more : (order : List ℕ) (at : ℕ) → ((k : ℕ) → k < at → Contains order k) → (k : ℕ) → k < at + 1 → Contains (order ++ at ∷ []) k
Upto-more order at every k low = elim (cases_lt k at) [
  | inl before ↦ Contains-append_left order (at ∷ []) k (every k before)
  | inr past ↦
      let last : at ≡ k = omega (arith, past, low) in
      subst (λ (n : ℕ). Contains (order ++ at ∷ []) n) last (Contains-push order at)
]

module _ (count : ℕ) (order cutting following : List ℕ) (at number : ℕ) (low : at < length order) (number_is : number ≡ get_or order at 0) (number_low : number < count) (so_far : TakesSoFar count order cutting following at) where
  -- one row more that cut solutions
  pub Takes-cutting : TakesSoFar count order (cutting ++ number ∷ []) following (at + 1)
  Takes-cutting = record {
    cutting_low = All-push (λ k. k < count) cutting number so_far.cutting_low number_low;
    following_low = so_far.following_low;
    each = All-more (λ k. Contains ((cutting ++ number ∷ []) ++ following) k) order at 0 low
        (λ k d within. elim (Contains-append_cases cutting following (get_or (take at order) k d) (so_far.each k d within)) [
          | inl left ↦ Contains-append_left (cutting ++ number ∷ []) following (get_or (take at order) k d) (Contains-append_left cutting (number ∷ []) (get_or (take at order) k d) left)
          | inr right ↦ Contains-append_right (cutting ++ number ∷ []) following (get_or (take at order) k d) right
        ])
        (subst (λ (k : ℕ). Contains ((cutting ++ number ∷ []) ++ following) k) number_is (Contains-append_left (cutting ++ number ∷ []) following number (Contains-push cutting number)));
  }

  -- one row more that followed
  pub Takes-following : TakesSoFar count order cutting (following ++ number ∷ []) (at + 1)
  Takes-following = record {
    cutting_low = so_far.cutting_low;
    following_low = All-push (λ k. k < count) following number so_far.following_low number_low;
    each = All-more (λ k. Contains (cutting ++ (following ++ number ∷ [])) k) order at 0 low
        (λ k d within. elim (Contains-append_cases cutting following (get_or (take at order) k d) (so_far.each k d within)) [
          | inl left ↦ Contains-append_left cutting (following ++ number ∷ []) (get_or (take at order) k d) left
          | inr right ↦ Contains-append_right cutting (following ++ number ∷ []) (get_or (take at order) k d) (Contains-append_left following (number ∷ []) (get_or (take at order) k d) right)
        ])
        (subst (λ (k : ℕ). Contains (cutting ++ (following ++ number ∷ [])) k) number_is (Contains-append_right cutting (following ++ number ∷ []) number (Contains-push following number)));
  }

-- once each row was taken, the two lists are an order
pub Takes-end : (count : ℕ) (order cutting following : List ℕ) (at : ℕ) → length order ≤ at → TakesEach count order → TakesSoFar count order cutting following at → TakesEach count (cutting ++ following)
Takes-end count order cutting following at past takes so_far = record {
  within = All-append (λ k. k < count) cutting following so_far.cutting_low so_far.following_low;
  every = λ k low.
      All-contains (λ n. Contains (cutting ++ following) n) order k
      (subst (λ (taken : List ℕ). All (λ n. Contains (cutting ++ following) n) taken) (take_all at order past) so_far.each) (takes.every k low);
}

pub TakesSoFar-along : (count : ℕ) (order cutting following other_cutting other_following : List ℕ) (at : ℕ) → other_cutting ≡ cutting → other_following ≡ following → TakesSoFar count order cutting following at → TakesSoFar count order other_cutting other_following at
TakesSoFar-along count order cutting following other_cutting other_following at same_cutting same_following so_far =
    subst (λ (c : List ℕ). TakesSoFar count order c other_following at) (sym same_cutting) (subst (λ (f : List ℕ). TakesSoFar count order cutting f at) (sym same_following) so_far)
