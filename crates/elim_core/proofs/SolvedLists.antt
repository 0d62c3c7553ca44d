-- Solver lists, column by column from the last unknown of the set to the first.
use Rattle.std.proofs.Common.{◌≡◌, ◌≢◌, ℕ, suc, ◌+◌, ◌-◌, ◌*◌, ◌%◌, ◌<◌, ◌==◌, if◌then◌else◌, Bool, true, List, [], ◌∷◌, length, get_or, inl, inr, refl, sym, ◌∙◌, ap, subst, arith}
use Rattle.std.proofs.lemmas.Bool.{cases_eq, cases_lt, eq-eqb, ne_eqb, or_cases, eqb-true}
use Rattle.std.proofs.Math.Nat.{mod-eq_of_lt, mod-lt, mod-add-mod, add-mod-mod, mod_self}
use Rattle.prime_field.specs.Sum.{sum_to}
use Rattle.prime_field.proofs.Sums.{sum-same, sum-pick}
use Rattle.elim_core.specs.Rows.{AllMet, AreResidues, spot, IsChoice, chosen_value, told_in, IsSolvedList}
use Rattle.elim_core.specs.Solver.{has_number, IsAscending, AreUnknowns}
use Rattle.elim_core.proofs.Told.{sum-none, multiple_of, choices_tell, choices_multiple, difference_none, told_meets, moved_meets}
use Rattle.elim_core.proofs.Choices.{has_number-index, index-has_number}
use Rattle.elim_core.proofs.Columns.{chosen-spot, chosen-own, chosen-other}
use Rattle.elim_core.proofs.CutBacks.{IsStep}

-- the columns of the list from `at` on, with a solution for the choice of each one's unknown, and the constants, which p gives
pub record SolvedSoFar (m u : ℕ) (rows : ℕ → ℕ → ℕ) (set want : List ℕ) (p : ℕ → ℕ) (out : List ℕ) (at : ℕ) : Type 0 where
  pub q : ℕ → ℕ → ℕ
  pub ones : (i : ℕ) → at < i + 1 → i < length set → IsChoice m u rows (λ k. has_number set (k + 1)) (λ k. chosen_value (get_or set i 0) (k + 1)) (q i)
  pub multiples : (t i : ℕ) → t < length want → at < i + 1 → i < length set → get_or out (t * (length set + 1) + i) 0 ≡ (q i (get_or want t 0 - 1) + (m - p (get_or want t 0 - 1))) % m
  pub constants : (t : ℕ) → t < length want → get_or out (t * (length set + 1) + length set) 0 ≡ p (get_or want t 0 - 1)

pub Solved-start : (m u : ℕ) (rows : ℕ → ℕ → ℕ) (set want : List ℕ) (p : ℕ → ℕ) (out : List ℕ) → ((t : ℕ) → t < length want → get_or out (t * (length set + 1) + length set) 0 ≡ p (get_or want t 0 - 1)) → SolvedSoFar m u rows set want p out (length set)
Solved-start m u rows set want p out constants = record {
  q = λ i k. 0;
  ones = λ i above low. absurd (omega arith);
  multiples = λ t i t_low above low. absurd (omega arith);
  constants = constants;
}

-- what was written is made of residues
pub solved_low : (m u : ℕ) (rows : ℕ → ℕ → ℕ) (set want : List ℕ) (p : ℕ → ℕ) (out : List ℕ) (at : ℕ) → 0 < m → AreUnknowns u want → AreResidues m u p → SolvedSoFar m u rows set want p out at → (t k : ℕ) → t < length want → at < k + 1 → k < length set + 1 → get_or out (t * (length set + 1) + k) 0 < m
solved_low m u rows set want p out at positive want_low p_low s t k t_low above low =
    let j_low : get_or want t 0 - 1 < u = omega (arith, (want_low t t_low).0, (want_low t t_low).1) in
    elim (cases_eq k (length set)) [
      | inl last ↦
          subst (λ (x : ℕ). x < m) (sym (ap (λ x. get_or out (t * (length set + 1) + x) 0) last ∙ s.constants t t_low)) (p_low (get_or want t 0 - 1) j_low)
      | inr before ↦
          subst (λ (x : ℕ). x < m) (sym (s.multiples t k t_low above (omega arith))) (mod-lt (s.q k (get_or want t 0 - 1) + (m - p (get_or want t 0 - 1))) positive)
    ]

-- what is added and taken away again
add_sub : (m a b : ℕ) → a < m → b < m → ((a + b) % m + (m - b)) % m ≡ a
add_sub m a b a_low b_low =
    mod-add-mod (a + b) m (m - b) ∙ ap (λ x. x % m) (omega arith) ∙ sym (add-mod-mod a m m) ∙
    ap (λ x. (a + x) % m) (mod_self m) ∙ ap (λ x. x % m) (omega arith) ∙ mod-eq_of_lt a_low

-- the next column, from a solution w with 1 for its unknown and 0 for those before it in the set
module _ (m u : ℕ) (rows : ℕ → ℕ → ℕ) (set want : List ℕ) (p w : ℕ → ℕ) (out : List ℕ) (i : ℕ) (large : 1 < m) (ascending : IsAscending set) (numbers : AreUnknowns u set) (i_low : i < length set)
    (zeros : IsChoice m u rows (λ k. has_number set (k + 1)) (λ k. 0) p)
    (step : IsStep m u rows set w i)
    (s : SolvedSoFar m u rows set want p out (i + 1)) where
  -- the number in a later column of the unknown at place j
  later : ℕ → ℕ → ℕ
  later j r = (s.q (i + 1 + r) j + (m - p j)) % m

  -- what the later columns give, at the values of w
  given : ℕ → ℕ
  given j = (sum_to (length set - (i + 1)) (λ r. later j r * w (get_or set (i + 1 + r) 0 - 1)) + p j) % m

  -- the solution for the choice of the column's unknown
  chosen : ℕ → ℕ
  chosen j = ((w j + (m - given j)) % m + p j) % m

  given_low : AreResidues m u given
  unfolding given
  given_low j low = mod-lt (sum_to (length set - (i + 1)) (λ r. later j r * w (get_or set (i + 1 + r) 0 - 1)) + p j) (omega arith)

  given_met : AllMet m u rows given
  unfolding given later
  given_met j low =
      told_meets m u (length set - (i + 1)) (rows j) later p (λ r. w (get_or set (i + 1 + r) 0 - 1)) given
      (λ r r_low.
      difference_none m u (rows j) (s.q (i + 1 + r)) p (λ k. later k r) zeros.residues
      ((s.ones (i + 1 + r) (omega arith) (omega arith)).met j low) (zeros.met j low) (λ k k_low. refl))
      (zeros.met j low) (λ k k_low. refl)

  chosen_met : AllMet m u rows chosen
  unfolding chosen
  chosen_met j low = moved_meets m u (rows j) w given p chosen given_low (step.met j low) (given_met j low) (zeros.met j low) (λ k k_low. refl)

  chosen_less : (j : ℕ) → j < u → (chosen j + (m - p j)) % m ≡ (w j + (m - given j)) % m
  unfolding chosen
  chosen_less j low = add_sub m ((w j + (m - given j)) % m) (p j) (mod-lt (w j + (m - given j)) (omega arith)) (zeros.residues j low)

  -- at the unknowns of the set
  place : ℕ → ℕ
  place r = get_or set r 0 - 1

  place_low : (r : ℕ) → r < length set → place r < u
  unfolding place
  place_low r low = omega (arith, (numbers r low).0, (numbers r low).1)

  number : (r : ℕ) → r < length set → place r + 1 ≡ get_or set r 0
  unfolding place
  number r low = omega (arith, (numbers r low).0)

  has : (r : ℕ) → r < length set → has_number set (place r + 1) ≡ true
  has r low = index-has_number set r (place r + 1) low (sym (number r low))

  apart : (r k : ℕ) → r < length set → k < length set → r ≢ k → get_or set r 0 ≢ get_or set k 0
  apart r k r_low k_low other =
      elim (cases_lt r k) [
        | inl before ↦ let order = ascending r k before k_low in omega arith
        | inr after ↦ let order = ascending k r (omega arith) r_low in omega arith
      ]

  later_at : (r k : ℕ) → r < length set → k < length set - (i + 1) → later (place r) k ≡ chosen_value (get_or set (i + 1 + k) 0) (get_or set r 0) % m
  unfolding later
  later_at r k r_low k_low =
      let none : p (place r) ≡ 0 = zeros.chosen (place r) (place_low r r_low) (has r r_low) in
      let value : s.q (i + 1 + k) (place r) ≡ chosen_value (get_or set (i + 1 + k) 0) (get_or set r 0) =
      (s.ones (i + 1 + k) (omega arith) (omega arith)).chosen (place r) (place_low r r_low) (has r r_low) ∙ ap (chosen_value (get_or set (i + 1 + k) 0)) (number r r_low) in
      ap (λ x. (x + (m - p (place r))) % m) value ∙
      ap (λ x. (chosen_value (get_or set (i + 1 + k) 0) (get_or set r 0) + x) % m) (omega arith) ∙
      sym (add-mod-mod (chosen_value (get_or set (i + 1 + k) 0) (get_or set r 0)) m m) ∙
      ap (λ x. (chosen_value (get_or set (i + 1 + k) 0) (get_or set r 0) + x) % m) (mod_self m) ∙
      ap (λ x. x % m) (omega arith)

  later_other : (r k : ℕ) → r < length set → k < length set - (i + 1) → r ≢ i + 1 + k → later (place r) k ≡ 0
  later_other r k r_low k_low other =
      later_at r k r_low k_low ∙
      ap (λ x. x % m) (chosen-other (get_or set (i + 1 + k) 0) (get_or set r 0) (apart r (i + 1 + k) r_low (omega arith) other)) ∙
      mod-eq_of_lt (omega arith)

  later_own : (k : ℕ) → k < length set - (i + 1) → later (place (i + 1 + k)) k ≡ 1
  later_own k k_low =
      later_at (i + 1 + k) k (omega arith) k_low ∙ ap (λ x. x % m) (chosen-own (get_or set (i + 1 + k) 0)) ∙ mod-eq_of_lt large

  given_later : (k : ℕ) → k < length set - (i + 1) → given (place (i + 1 + k)) ≡ w (place (i + 1 + k))
  unfolding given place
  given_later k k_low =
      let r_low : i + 1 + k < length set = omega arith in
      let none : p (place (i + 1 + k)) ≡ 0 = zeros.chosen (place (i + 1 + k)) (place_low (i + 1 + k) r_low) (has (i + 1 + k) r_low) in
      let picked = sum-pick (length set - (i + 1)) k (λ r. later (place (i + 1 + k)) r * w (get_or set (i + 1 + r) 0 - 1)) k_low
      (λ r low other.
      let ne : i + 1 + k ≢ i + 1 + r = λ same. other (omega arith) in
      ap (λ x. x * w (get_or set (i + 1 + r) 0 - 1)) (later_other (i + 1 + k) r r_low low ne) ∙ omega arith) in
      ap (λ x. x % m) (omega (arith, picked, none, ap (λ x. x * w (get_or set (i + 1 + k) 0 - 1)) (later_own k k_low))) ∙
      mod-eq_of_lt (step.residues (place (i + 1 + k)) (place_low (i + 1 + k) r_low))

  given_before : (r : ℕ) → r < i + 1 → given (place r) ≡ 0
  unfolding given
  given_before r before =
      let r_low : r < length set = omega arith in
      let none : p (place r) ≡ 0 = zeros.chosen (place r) (place_low r r_low) (has r r_low) in
      ap (λ x. x % m) (omega (arith, none)) ∙
      sum-none m (length set - (i + 1)) (λ k. later (place r) k * w (get_or set (i + 1 + k) 0 - 1))
      (λ k low.
      let ne : r ≢ i + 1 + k = omega arith in
      ap (λ x. x % m) (ap (λ x. x * w (get_or set (i + 1 + k) 0 - 1)) (later_other r k r_low low ne) ∙ omega arith) ∙ mod-eq_of_lt (omega arith))

  step_at : (r : ℕ) → r < i + 1 → w (place r) ≡ chosen_value (get_or set i 0) (get_or set r 0)
  unfolding place
  step_at r before =
      elim (cases_eq r i) [
        | inl same ↦
            ap (λ k. w (get_or set k 0 - 1)) same ∙ step.one ∙ sym (chosen-own (get_or set i 0)) ∙
            ap (λ k. chosen_value (get_or set i 0) (get_or set k 0)) (sym same)
        | inr other ↦ step.none r (omega arith) ∙ sym (chosen-other (get_or set i 0) (get_or set r 0) (apart r i (omega arith) i_low other))
      ]

  chosen_at : (r : ℕ) → r < length set → chosen (place r) ≡ chosen_value (get_or set i 0) (get_or set r 0)
  unfolding chosen
  chosen_at r low =
      let none : p (place r) ≡ 0 = zeros.chosen (place r) (place_low r low) (has r low) in
      let w_low = step.residues (place r) (place_low r low) in
      elim (cases_lt i r) [
        | inl after ↦
            let is : i + 1 + (r - (i + 1)) ≡ r = omega arith in
            let all : given (place r) ≡ w (place r) = subst (λ (x : ℕ). given (place x) ≡ w (place x)) is (given_later (r - (i + 1)) (omega arith)) in
            let ne : r ≢ i = omega arith in
            ap (λ x. (x % m + p (place r)) % m) (omega (arith, all, w_low)) ∙
            ap (λ x. (x + p (place r)) % m) (mod_self m) ∙
            ap (λ x. x % m) (omega (arith, none)) ∙ mod-eq_of_lt (omega arith) ∙
            sym (chosen-other (get_or set i 0) (get_or set r 0) (apart r i low i_low ne))
        | inr before ↦
            let nothing = given_before r (omega arith) in
            ap (λ x. ((w (place r) + x) % m + p (place r)) % m) (omega (arith, nothing)) ∙
            ap (λ x. (x + p (place r)) % m) (sym (add-mod-mod (w (place r)) m m) ∙ ap (λ x. (w (place r) + x) % m) (mod_self m)) ∙
            mod-add-mod (w (place r) + 0) m (p (place r)) ∙
            ap (λ x. x % m) (omega (arith, none)) ∙ mod-eq_of_lt w_low ∙
            step_at r (omega arith)
      ]

  chosen_choice : IsChoice m u rows (λ k. has_number set (k + 1)) (λ k. chosen_value (get_or set i 0) (k + 1)) chosen
  unfolding chosen place
  chosen_choice = record {
    residues = λ j low. mod-lt ((w j + (m - given j)) % m + p j) (omega arith);
    met = chosen_met;
    chosen = λ k low is.
        let found = has_number-index set (k + 1) is in
        let there : get_or set found.0 0 - 1 ≡ k = omega (arith, found.2) in
        ap chosen (sym there) ∙ chosen_at found.0 found.1 ∙ ap (chosen_value (get_or set i 0)) found.2;
  }

  -- what the code takes from the list is what the later columns give
  given_in : (t : ℕ) → t < length want → told_in m w set out (t * (length set + 1)) (i + 1) ≡ given (get_or want t 0 - 1)
  unfolding given later
  given_in t low =
      ap (λ x. (x + get_or out (t * (length set + 1) + length set) 0) % m) (
      sum-same (length set - (i + 1)) (λ r. get_or out (t * (length set + 1) + (i + 1 + r)) 0 * w (get_or set (i + 1 + r) 0 - 1))
      (λ r. later (get_or want t 0 - 1) r * w (get_or set (i + 1 + r) 0 - 1))
      (λ r r_low. ap (λ x. x * w (get_or set (i + 1 + r) 0 - 1)) (s.multiples t (i + 1 + r) low (omega arith) (omega arith)))) ∙
      ap (λ x. (sum_to (length set - (i + 1)) (λ r. later (get_or want t 0 - 1) r * w (get_or set (i + 1 + r) 0 - 1)) + x) % m) (s.constants t low)

  pub Solved-more : (out' : List ℕ) → AreUnknowns u want →
      ((t : ℕ) → t < length want → get_or out' (t * (length set + 1) + i) 0 ≡ (w (get_or want t 0 - 1) + (m - told_in m w set out (t * (length set + 1)) (i + 1))) % m) →
      ((t k : ℕ) → k < length set + 1 → k ≢ i → get_or out' (t * (length set + 1) + k) 0 ≡ get_or out (t * (length set + 1) + k) 0) →
      SolvedSoFar m u rows set want p out' i
  Solved-more out' want_low written others = record {
    q = λ k. if k == i then chosen else s.q k;
    ones = λ k above k_low.
        elim (cases_eq k i) [
          | inl same ↦
              rw (eq-eqb k i same)
              (subst (λ (x : ℕ). IsChoice m u rows (λ j. has_number set (j + 1)) (λ j. chosen_value (get_or set x 0) (j + 1)) chosen) (sym same) chosen_choice)
          | inr ne ↦ rw (ne_eqb k i ne) (s.ones k (omega arith) k_low)
        ];
    multiples = λ t k t_low above k_low.
        elim (cases_eq k i) [
          | inl same ↦
              rw (eq-eqb k i same)
              (ap (λ x. get_or out' (t * (length set + 1) + x) 0) same ∙ written t t_low ∙
              ap (λ x. (w (get_or want t 0 - 1) + (m - x)) % m) (given_in t t_low) ∙
              sym (chosen_less (get_or want t 0 - 1) (omega (arith, (want_low t t_low).0, (want_low t t_low).1))))
          | inr ne ↦ rw (ne_eqb k i ne) (others t k (omega arith) ne ∙ s.multiples t k t_low (omega arith) k_low)
        ];
    constants = λ t t_low.
        let last : length set ≢ i = omega arith in
        others t (length set) (omega arith) last ∙ s.constants t t_low;
  }

-- where a number stands in a list
position_in : List ℕ → ℕ → ℕ
position_in [] n = 0
position_in (x ∷ xs) n = if x == n then 0 else suc (position_in xs n)

position-at : (xs : List ℕ) (n : ℕ) → has_number xs n ≡ true → (position_in xs n < length xs) × (get_or xs (position_in xs n) 0 ≡ n)
unfolding position_in
position-at [] n has = absurd (cc)
position-at (x ∷ xs) n has =
    elim (cases_eq x n) [
      | inl same ↦ rw (eq-eqb x n same) (omega arith, same)
      | inr other ↦
          elim (or_cases _ _ has) [
            | inl first ↦ absurd (other (eqb-true x n first))
            | inr later ↦
                let found = position-at xs n later in
                rw (ne_eqb x n other) (omega (arith, found.0), found.1)
          ]
    ]

position-own : (xs : List ℕ) (i : ℕ) → IsAscending xs → i < length xs → position_in xs (get_or xs i 0) ≡ i
position-own xs i ascending low =
    let found = position-at xs (get_or xs i 0) (index-has_number xs i (get_or xs i 0) low refl) in
    elim (cases_lt (position_in xs (get_or xs i 0)) i) [
      | inl before ↦ absurd (omega (arith, ascending (position_in xs (get_or xs i 0)) i before low, found.1))
      | inr not_before ↦
          elim (cases_lt i (position_in xs (get_or xs i 0))) [
            | inl after ↦ absurd (omega (arith, ascending i (position_in xs (get_or xs i 0)) after found.0, found.1))
            | inr not_after ↦ omega arith
          ]
    ]

-- the whole list
pub solved_list : (m u : ℕ) (rows : ℕ → ℕ → ℕ) (set want : List ℕ) (p : ℕ → ℕ) (out : List ℕ) → 1 < m → IsAscending set → AreUnknowns u set →
    IsChoice m u rows (λ k. has_number set (k + 1)) (λ k. 0) p →
    ((y : ℕ → ℕ) → IsChoice m u rows (λ k. has_number set (k + 1)) (λ k. 0) y → (j : ℕ) → j < u → y j ≡ p j) →
    SolvedSoFar m u rows set want p out 0 →
    IsSolvedList m u rows set want out
solved_list m u rows set want p out large ascending numbers zeros alone s =
    let has : ℕ → Bool = λ k. has_number set (k + 1) in
    let q : ℕ → ℕ → ℕ = λ k. s.q (position_in set (k + 1)) in
    let ones : (k : ℕ) → k < u → has k ≡ true → IsChoice m u rows has (spot k) (q k) = λ k low is.
    let place = position-at set (k + 1) is in
    let one = s.ones (position_in set (k + 1)) (omega arith) place.0 in
    record {
      residues = one.residues;
      met = one.met;
      chosen = λ x x_low x_is. one.chosen x x_low x_is ∙ ap (λ n. chosen_value n (x + 1)) place.1 ∙ chosen-spot k x;
    } in
    record {
      c = multiple_of m has p q;
      d = p;
      tells = choices_tell m u rows has p q large zeros ones alone;
      multiples = λ t i t_low i_low.
          let number : get_or set i 0 - 1 + 1 ≡ get_or set i 0 = omega (arith, (numbers i i_low).0) in
          let is : has (get_or set i 0 - 1) ≡ true = index-has_number set i (get_or set i 0 - 1 + 1) i_low (sym number) in
          let place : position_in set (get_or set i 0 - 1 + 1) ≡ i = ap (position_in set) number ∙ position-own set i ascending i_low in
          s.multiples t i t_low (omega arith) i_low ∙
          ap (λ x. (s.q x (get_or want t 0 - 1) + (m - p (get_or want t 0 - 1))) % m) (sym place) ∙
          sym (choices_multiple m u rows has p q large zeros ones alone (get_or want t 0 - 1) (get_or set i 0 - 1) is);
      constants = s.constants;
    }
