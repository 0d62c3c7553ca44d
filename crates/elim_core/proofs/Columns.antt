-- Lists that loops write: the empty slots, and the columns of a solver list.
use Rattle.std.proofs.Common.{◌≡◌, ◌≢◌, ℕ, zero, suc, ◌+◌, ◌-◌, ◌*◌, ◌%◌, ◌<◌, ◌≤◌, List, length, get_or, take, true, inl, inr, refl, sym, ◌∙◌, ap, arith, get_or-set_other, get_or-set_same}
use Rattle.std.proofs.Math.ListN.{set, length-set}
use Rattle.std.proofs.lemmas.Bool.{cases_eq, cases_lt, eq-eqb, ne_eqb}
use Rattle.std.proofs.lemmas.List.{get_or-take, length-take-le}
use Rattle.prime_field.specs.Sum.{sum_to}
use Rattle.prime_field.proofs.Sums.{sum-same}
use Rattle.elim_core.specs.Rows.{spot, chosen_value, told_in}
use Rattle.elim_core.specs.Solver.{has_number, IsAscending, AreUnknowns}
use Rattle.elim_core.proofs.Systems.{put-same, put-other}
use Rattle.elim_core.proofs.Choices.{has_number-index, index-has_number}
use Rattle.elim_core.proofs.Taken.{slot_before}

-- the numbers of the empty slots before place `at`, as far as they were written
pub record EmptySoFar (ends out : List ℕ) (count at : ℕ) : Type 0 where
  pub few : count ≤ at
  pub numbers : (t : ℕ) → t < count → (0 < get_or out t 0) × (get_or out t 0 < at + 1)
  pub empty : (t : ℕ) → t < count → get_or ends (get_or out t 0 - 1) 0 ≡ 0
  pub ascending : (s t : ℕ) → s < t → t < count → get_or out s 0 < get_or out t 0
  pub all : (k : ℕ) → k < at → get_or ends k 0 ≡ 0 → (t : ℕ) × (t < count) × (get_or out t 0 ≡ k + 1)

pub Empty-skip : (ends out : List ℕ) (count at : ℕ) → EmptySoFar ends out count at → get_or ends at 0 ≢ 0 → EmptySoFar ends out count (at + 1)
Empty-skip ends out count at s some = record {
  few = omega (arith, s.few);
  numbers = λ t low. ((s.numbers t low).0, omega (arith, (s.numbers t low).1));
  empty = s.empty;
  ascending = s.ascending;
  all = λ k low none.
      elim (cases_eq k at) [
        | inl same ↦ absurd (some (ap (λ i. get_or ends i 0) (sym same) ∙ none))
        | inr other ↦ s.all k (omega arith) none
      ];
}

pub Empty-more : (ends out : List ℕ) (count at : ℕ) → EmptySoFar ends out count at → get_or ends at 0 ≡ 0 → at < length out → EmptySoFar ends (set out count (at + 1)) (count + 1) (at + 1)
Empty-more ends out count at s none low =
    let there : count < length out = omega (arith, s.few) in
    let here : get_or (set out count (at + 1)) count 0 ≡ at + 1 = get_or-set_same out count (at + 1) 0 there in
    let other : (t : ℕ) → t ≢ count → get_or (set out count (at + 1)) t 0 ≡ get_or out t 0 = λ t ne. get_or-set_other out count t (at + 1) 0 ne in
    record {
      few = omega (arith, s.few);
      numbers = λ t t_low.
          elim (cases_eq t count) [
            | inl same ↦
                let is : get_or (set out count (at + 1)) t 0 ≡ at + 1 = ap (λ i. get_or (set out count (at + 1)) i 0) same ∙ here in
                (omega (arith, is), omega (arith, is))
            | inr ne ↦
                let before = s.numbers t (omega arith) in
                let is = other t ne in
                (omega (arith, before.0, is), omega (arith, before.1, is))
          ];
      empty = λ t t_low.
          elim (cases_eq t count) [
            | inl same ↦
                let is : get_or (set out count (at + 1)) t 0 - 1 ≡ at = omega (arith, ap (λ i. get_or (set out count (at + 1)) i 0) same ∙ here) in
                ap (λ i. get_or ends i 0) is ∙ none
            | inr ne ↦ ap (λ x. get_or ends (x - 1) 0) (other t ne) ∙ s.empty t (omega arith)
          ];
      ascending = λ a b before b_low.
          let a_ne : a ≢ count = omega arith in
          elim (cases_eq b count) [
            | inl last ↦
                omega (arith, other a a_ne, (s.numbers a (omega arith)).1, ap (λ i. get_or (set out count (at + 1)) i 0) last ∙ here)
            | inr ne ↦ omega (arith, other a a_ne, other b ne, s.ascending a b before (omega arith))
          ];
      all = λ k k_low k_none.
          elim (cases_eq k at) [
            | inl same ↦ (count, omega arith, here ∙ ap (λ i. i + 1) (sym same))
            | inr ne ↦
                let found = s.all k (omega arith) k_none in
                let apart : found.0 ≢ count = omega (arith, found.1) in
                (found.0, omega (arith, found.1), other found.0 apart ∙ found.2)
          ];
    }

-- what was written, as a list
module _ (ends out : List ℕ) (count u : ℕ) (s : EmptySoFar ends out count u) (room : length out ≡ u) where
  taken_room : length (take count out) ≡ count
  taken_room = length-take-le count out (omega (arith, s.few))

  pub taken-numbers : AreUnknowns u (take count out)
  taken-numbers t low =
      let t_low : t < count = omega (arith, taken_room) in
      let is = get_or-take count out t 0 t_low in
      (omega (arith, is, (s.numbers t t_low).0), omega (arith, is, (s.numbers t t_low).1))

  pub taken-ascending : IsAscending (take count out)
  taken-ascending a b before low =
      let b_low : b < count = omega (arith, taken_room) in
      omega (arith, get_or-take count out a 0 (omega arith), get_or-take count out b 0 b_low, s.ascending a b before b_low)

  pub taken-all : (k : ℕ) → k < u → get_or ends k 0 ≡ 0 → has_number (take count out) (k + 1) ≡ true
  taken-all k low none =
      let found = s.all k low none in
      index-has_number (take count out) found.0 (k + 1) (omega (arith, found.1, taken_room)) (get_or-take count out found.0 0 found.1 ∙ found.2)

  pub taken-only : (k : ℕ) → k < u → has_number (take count out) (k + 1) ≡ true → get_or ends k 0 ≡ 0
  taken-only k low has =
      let found = has_number-index (take count out) (k + 1) has in
      let t_low : found.0 < count = omega (arith, found.1, taken_room) in
      let is : get_or out found.0 0 - 1 ≡ k = omega (arith, get_or-take count out found.0 0 t_low, found.2) in
      ap (λ i. get_or ends i 0) (sym is) ∙ s.empty found.0 t_low

-- two places of a list of rows of n + 1 entries
pub same_place : (n t k t' k' : ℕ) → k < n + 1 → k' < n + 1 → t * (n + 1) + k ≡ t' * (n + 1) + k' → (t ≡ t') × (k ≡ k')
same_place n t k t' k' low low' same =
    elim (cases_lt t t') [
      | inl before ↦ absurd (omega (arith, slot_before t t' n k before low))
      | inr not_before ↦
          elim (cases_lt t' t) [
            | inl after ↦ absurd (omega (arith, slot_before t' t n k' after low'))
            | inr not_after ↦
                let is : t ≡ t' = omega arith in
                (is, omega (arith, same, ap (λ x. x * (n + 1)) is))
          ]
    ]

pub record ConstantsSoFar (values want : List ℕ) (n : ℕ) (old out : List ℕ) (at : ℕ) : Type 0 where
  pub room : length out ≡ length old
  pub written : (t : ℕ) → t < at → get_or out (t * (n + 1) + n) 0 ≡ get_or values (get_or want t 0 - 1) 0

pub Constants-more : (values want : List ℕ) (n : ℕ) (old out : List ℕ) (at v : ℕ) → ConstantsSoFar values want n old out at → length old ≡ length want * (n + 1) → at < length want → v ≡ get_or values (get_or want at 0 - 1) 0 → ConstantsSoFar values want n old (set out (at * (n + 1) + n) v) (at + 1)
Constants-more values want n old out at v s room low v_is =
    let there : at * (n + 1) + n < length out = omega (arith, s.room, room, slot_before at (length want) n n low (omega arith)) in
    record {
      room = length-set out (at * (n + 1) + n) v ∙ s.room;
      written = λ t t_low.
          elim (cases_eq t at) [
            | inl same ↦
                ap (λ x. get_or (set out (at * (n + 1) + n) v) (x * (n + 1) + n) 0) same ∙
                get_or-set_same out (at * (n + 1) + n) v 0 there ∙ v_is ∙ ap (λ x. get_or values (get_or want x 0 - 1) 0) (sym same)
            | inr other ↦
                let apart : t * (n + 1) + n ≢ at * (n + 1) + n = λ same. other ((same_place n t n at n (omega arith) (omega arith) same).0) in
                get_or-set_other out (at * (n + 1) + n) (t * (n + 1) + n) v 0 apart ∙ s.written t (omega arith)
          ];
    }

-- what later columns give depends on these alone
told_in-same : (m : ℕ) (values : ℕ → ℕ) (numbers out old : List ℕ) (start first : ℕ) → first < length numbers + 1 → ((k : ℕ) → first < k + 1 → k < length numbers + 1 → get_or out (start + k) 0 ≡ get_or old (start + k) 0) → told_in m values numbers out start first ≡ told_in m values numbers old start first
told_in-same m values numbers out old start first low same =
    ap (λ x. (x + get_or out (start + length numbers) 0) % m) (
    sum-same (length numbers - first) (λ r. get_or out (start + (first + r)) 0 * values (get_or numbers (first + r) 0 - 1)) (λ r. get_or old (start + (first + r)) 0 * values (get_or numbers (first + r) 0 - 1))
    (λ r r_low. ap (λ x. x * values (get_or numbers (first + r) 0 - 1)) (same (first + r) (omega arith) (omega arith)))) ∙
    ap (λ x. (sum_to (length numbers - first) (λ r. get_or old (start + (first + r)) 0 * values (get_or numbers (first + r) 0 - 1)) + x) % m) (same (length numbers) (omega arith) (omega arith))

-- a sum that begins with 0
sum-later : (n : ℕ) (f : ℕ → ℕ) → f 0 ≡ 0 → sum_to (suc n) f ≡ sum_to n (λ k. f (suc k))
sum-later zero f none = omega (arith, none)
sum-later (suc n) f none = omega (arith, sum-later n f none)

-- a column at whose unknown the value is 0 gives nothing
told_in-skip : (m : ℕ) (values : ℕ → ℕ) (numbers out : List ℕ) (start first : ℕ) → first < length numbers → values (get_or numbers first 0 - 1) ≡ 0 → told_in m values numbers out start (first + 1) ≡ told_in m values numbers out start first
told_in-skip m values numbers out start first low none =
    let term : ℕ → ℕ = λ r. get_or out (start + (first + r)) 0 * values (get_or numbers (first + r) 0 - 1) in
    let nothing : term 0 ≡ 0 = ap (λ x. get_or out (start + x) 0 * values (get_or numbers x 0 - 1)) (omega arith) ∙ ap (λ x. get_or out (start + first) 0 * x) none ∙ omega arith in
    let one_more : length numbers - first ≡ suc (length numbers - (first + 1)) = omega arith in
    ap (λ x. (x + get_or out (start + length numbers) 0) % m) (
    sum-same (length numbers - (first + 1)) (λ r. get_or out (start + (first + 1 + r)) 0 * values (get_or numbers (first + 1 + r) 0 - 1)) (λ r. term (suc r))
    (λ r r_low. ap (λ x. get_or out (start + x) 0 * values (get_or numbers x 0 - 1)) (omega arith)) ∙
    sym (sum-later (length numbers - (first + 1)) term nothing) ∙
    ap (λ x. sum_to x term) (sym one_more))

pub told_in-later : (m : ℕ) (values : ℕ → ℕ) (numbers out : List ℕ) (start first gap : ℕ) → first + gap < length numbers + 1 → ((k : ℕ) → first < k + 1 → k < first + gap → values (get_or numbers k 0 - 1) ≡ 0) → told_in m values numbers out start (first + gap) ≡ told_in m values numbers out start first
told_in-later m values numbers out start first zero low none = ap (told_in m values numbers out start) (omega arith)
told_in-later m values numbers out start first (suc gap) low none =
    ap (told_in m values numbers out start) (omega arith) ∙
    told_in-skip m values numbers out start (first + gap) (omega arith) (none (first + gap) (omega arith) (omega arith)) ∙
    told_in-later m values numbers out start first gap (omega arith) (λ k above k_low. none k above (omega arith))

-- a column that was written up to row `at`
pub record ColumnSoFar (m : ℕ) (values numbers want : List ℕ) (column : ℕ) (old out : List ℕ) (at : ℕ) : Type 0 where
  pub room : length out ≡ length old
  pub written : (t : ℕ) → t < at → get_or out (t * (length numbers + 1) + column) 0 ≡ (get_or values (get_or want t 0 - 1) 0 + (m - told_in m (λ k. get_or values k 0) numbers old (t * (length numbers + 1)) (column + 1))) % m
  pub others : (t k : ℕ) → k < length numbers + 1 → k ≢ column → get_or out (t * (length numbers + 1) + k) 0 ≡ get_or old (t * (length numbers + 1) + k) 0

pub Column-more : (m : ℕ) (values numbers want : List ℕ) (column : ℕ) (old out : List ℕ) (at v told : ℕ) → ColumnSoFar m values numbers want column old out at → length old ≡ length want * (length numbers + 1) → column < length numbers → at < length want →
    told ≡ told_in m (λ k. get_or values k 0) numbers out (at * (length numbers + 1)) (column + 1) → v ≡ (get_or values (get_or want at 0 - 1) 0 + (m - told)) % m →
    ColumnSoFar m values numbers want column old (set out (at * (length numbers + 1) + column) v) (at + 1)
Column-more m values numbers want column old out at v told s room column_low low told_is v_is =
    let n = length numbers in
    let p = at * (n + 1) + column in
    let now = set out p v in
    let there : p < length out = omega (arith, s.room, room, slot_before at (length want) n column low (omega arith)) in
    record {
      room = length-set out p v ∙ s.room;
      written = λ t t_low.
          elim (cases_eq t at) [
            | inl same ↦
                ap (λ x. get_or now (x * (n + 1) + column) 0) same ∙
                get_or-set_same out p v 0 there ∙ v_is ∙
                ap (λ x. (get_or values (get_or want at 0 - 1) 0 + (m - x)) % m) (
                told_is ∙
                told_in-same m (λ k. get_or values k 0) numbers out old (at * (n + 1)) (column + 1) (omega arith)
                (λ k above k_low. let other : k ≢ column = omega arith in s.others at k k_low other)) ∙
                ap (λ x. (get_or values (get_or want x 0 - 1) 0 + (m - told_in m (λ k. get_or values k 0) numbers old (x * (n + 1)) (column + 1))) % m) (sym same)
            | inr other ↦
                let apart : t * (n + 1) + column ≢ p = λ same. other ((same_place n t column at column (omega arith) (omega arith) same).0) in
                get_or-set_other out p (t * (n + 1) + column) v 0 apart ∙ s.written t (omega arith)
          ];
      others = λ t k k_low other.
          let apart : t * (n + 1) + k ≢ p = λ same. other ((same_place n t k at column k_low (omega arith) same).1) in
          get_or-set_other out p (t * (n + 1) + k) v 0 apart ∙ s.others t k k_low other;
    }

-- a choice's value for its own number, and for another
pub chosen-own : (n : ℕ) → chosen_value n n ≡ 1
chosen-own n = rw (eq-eqb n n refl) refl

pub chosen-other : (chosen n : ℕ) → n ≢ chosen → chosen_value chosen n ≡ 0
chosen-other chosen n other = rw (ne_eqb n chosen other) refl

-- a choice's value for a number is that of the row with 1 at its place
pub chosen-spot : (k x : ℕ) → chosen_value (k + 1) (x + 1) ≡ spot k x
chosen-spot k x =
    elim (cases_eq x k) [
      | inl same ↦
          let same_number : x + 1 ≡ k + 1 = omega arith in
          rw (eq-eqb (x + 1) (k + 1) same_number) (sym (put-same k 1 (λ i. 0)) ∙ ap (spot k) (sym same))
      | inr other ↦
          let apart : x + 1 ≢ k + 1 = omega arith in
          rw (ne_eqb (x + 1) (k + 1) apart) (sym (put-other k x 1 (λ i. 0) other))
    ]

pub chosen-none : (x : ℕ) → chosen_value 0 (x + 1) ≡ 0
chosen-none x =
    let apart : x + 1 ≢ 0 = omega arith in
    chosen-other 0 (x + 1) apart
