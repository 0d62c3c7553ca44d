-- The turns of learned steps: where their columns stand, and what is left of the row at hand.
use Rattle.std.proofs.Common.{◌≡◌, ◌≢◌, ℕ, zero, suc, ◌+◌, ◌*◌, ◌-◌, ◌%◌, ◌<◌, ◌≤◌, ◌⊎◌, List, [], ◌∷◌, ◌++◌, length, get_or, take, drop, inl, inr, sym, ◌∙◌, ap, subst, add-one, length-drop, false, arith}
use Rattle.std.proofs.lemmas.Bool.{cases_eq}
use Rattle.std.proofs.lemmas.List.{drop-append-le, take-append-le}
use Rattle.std.proofs.lemmas.Grind.{get_or_default_zero}
use Rattle.std.proofs.Math.Nat.{zero-mod}
use Rattle.std.specs.Prelude.{slice_range}
use Rattle.prime_field.proofs.Sums.{sum-same, sum-scaled}
use Rattle.elim_core.specs.Solver.{has_number}
use Rattle.elim_core.proofs.Choices.{has_number-index}
use Rattle.elim_core.proofs.Told.{bool_cases}
use Rattle.sparse_solver.specs.Packed.{IsOutside, packed_sum, row_sum}
use Rattle.sparse_solver.specs.Steps.{AreShaped, KeptVanish, IsOutsideTurn, head_of, kept_in, part_of}
use Rattle.sparse_solver.specs.declared.steps.Steps.{Steps}

-- a part of what stands in front
pub range_front : (front back : List ℕ) (a b : ℕ) → a ≤ b → b ≤ length front → slice_range (front ++ back) a b ≡ slice_range front a b
range_front front back a b order end =
    ap (λ l. take (b - a) l) (drop-append-le a front back (omega arith)) ∙
    take-append-le (b - a) (drop a front) back (omega (arith, length-drop a front))

-- the turns' parts follow each other
pub ends_before : (u : ℕ) (s : Steps) → AreShaped u s → (e t : ℕ) → e < t → t < kept_in s → get_or s.starts.items (e + 1) 0 ≤ get_or s.leads.items t 0
ends_before u s shaped e zero low within = absurd (omega arith)
ends_before u s shaped e (suc t) low within =
    let placed = shaped.placed (suc t) within in
    elim (cases_eq e t) [
      | inl last ↦
          omega (arith, placed.begins, ap (λ n. get_or s.starts.items n 0) (ap (λ n. n + 1) last ∙ add-one t))
      | inr other ↦
          let earlier = ends_before u s shaped e t (omega (arith, other)) (omega arith) in
          let now = shaped.placed t (omega arith) in
          omega (arith, earlier, now.leads, placed.begins, ap (λ n. get_or s.starts.items n 0) (add-one t))
    ]

-- a column stands somewhere in a list, or is outside it
pub column_cases : (columns : List ℕ) (k : ℕ) → IsOutside columns k ⊎ ((i : ℕ) × (i < length columns) × (get_or columns i 0 ≡ k))
column_cases [] k = inl (λ i low. absurd (omega arith))
column_cases (x ∷ columns) k =
    elim (cases_eq x k) [
      | inl here ↦ inr (0, omega arith, here)
      | inr other ↦
          elim (column_cases columns k) [
            | inr later ↦ inr (suc later.0, omega (arith, later.1), later.2)
            | inl outside ↦ inl (λ i low. after i low other outside)
          ]
    ]
  where
    after : (i : ℕ) → i < length (x ∷ columns) → (x ≡ k → ⊥) → IsOutside columns k → get_or (x ∷ columns) i 0 ≢ k
    after zero low other outside = other
    after (suc i) low other outside = outside i (omega arith)

-- the row at hand is 0 once the row of the turn was taken from it
pub zero_again : (s : Steps) (t : ℕ) (first loaded summed left : List ℕ) → ((k : ℕ) → get_or first k 0 ≡ 0) →
    ((k : ℕ) → IsOutsideTurn s t k → get_or loaded k 0 ≡ get_or first k 0) →
    ((k : ℕ) → IsOutsideTurn s t k → get_or summed k 0 ≡ get_or loaded k 0) →
    ((i : ℕ) → i < length (head_of s t) → get_or summed (get_or (head_of s t) i 0) 0 ≡ 0) →
    ((i : ℕ) → i < length (part_of s t s.columns.items) → get_or left (get_or (part_of s t s.columns.items) i 0) 0 ≡ 0) →
    ((k : ℕ) → IsOutside (part_of s t s.columns.items) k → get_or left k 0 ≡ get_or summed k 0) →
    (k : ℕ) → get_or left k 0 ≡ 0
zero_again s t first loaded summed left zeros loaded_is summed_is head_zero cleared left_is k =
    elim (column_cases (part_of s t s.columns.items) k) [
      | inr within ↦ ap (λ n. get_or left n 0) (sym within.2) ∙ cleared within.0 within.1
      | inl outside ↦
          left_is k outside ∙
          elim (column_cases (head_of s t) k) [
            | inr before ↦ ap (λ n. get_or summed n 0) (sym before.2) ∙ head_zero before.0 before.1
            | inl beyond ↦ summed_is k (beyond, outside) ∙ loaded_is k (beyond, outside) ∙ zeros k
          ]
    ]

-- the sum of a row of zeros
pub row_sum-zeros : (row : List ℕ) (w : ℕ → ℕ) → ((k : ℕ) → get_or row k 0 ≡ 0) → row_sum row w ≡ 0
row_sum-zeros row w zeros =
    sum-same (length row) (λ k. get_or row k 0 * w k) (λ k. 0 * 0) (λ k low. ap (λ x. x * w k) (zeros k) ∙ omega arith) ∙
    sum-scaled (length row) 0 (λ k. 0) ∙ omega arith

-- one more kept row, whose sum leaves 0
pub kept_more : (m : ℕ) (s : Steps) (kept now : List ℕ) (t : ℕ) (w : ℕ → ℕ) → ((e : ℕ) → e < t → part_of s e now ≡ part_of s e kept) →
    packed_sum (part_of s t s.columns.items) (part_of s t now) w % m ≡ 0 → KeptVanish m s kept t w → KeptVanish m s now (t + 1) w
kept_more m s kept now t w before here vanish e low =
    elim (cases_eq e t) [
      | inl last ↦ subst (λ (n : ℕ). packed_sum (part_of s n s.columns.items) (part_of s n now) w % m ≡ 0) (sym last) here
      | inr other ↦
          let earlier : e < t = omega (arith, other) in
          ap (λ l. packed_sum (part_of s e s.columns.items) l w % m) (before e earlier) ∙ vanish e earlier
    ]

-- what is moved out of a row at hand that has nothing left
pub moved_none : (m : ℕ) (first loaded summed left : List ℕ) (sum : ℕ) (w : ℕ → ℕ) → ((k : ℕ) → get_or first k 0 ≡ 0) → ((k : ℕ) → get_or left k 0 ≡ 0) →
    row_sum loaded w % m ≡ row_sum first w % m → row_sum summed w % m ≡ row_sum loaded w % m → row_sum left w + sum ≡ row_sum summed w → sum % m ≡ 0
moved_none m first loaded summed left sum w zeros none loaded_is summed_is moved =
    ap (λ t. t % m) (omega (arith, moved, row_sum-zeros left w none)) ∙
    summed_is ∙ loaded_is ∙ ap (λ t. t % m) (row_sum-zeros first w zeros) ∙ zero-mod m

-- what was read within a list
pub read_at : (xs : List ℕ) (i x : ℕ) → i < length xs → x ≡ get_or xs i x → x ≡ get_or xs i 0
read_at xs i x low is = is ∙ get_or_default_zero xs i x low

-- columns that all have the mark of a turn are columns of it
pub closed_by_marks : (turn k : ℕ) (old middle now head part columns : List ℕ) → ((k : ℕ) → get_or old k 0 ≤ turn) → ((k : ℕ) → IsOutside head k → get_or middle k 0 ≡ get_or old k 0) →
    ((k : ℕ) → IsOutside part k → get_or now k 0 ≡ get_or middle k 0) → ((i : ℕ) → i < length columns → get_or now (get_or columns i 0) 0 ≡ turn + 1) → IsOutside head k × IsOutside part k → IsOutside columns k
closed_by_marks turn k old middle now head part columns below middle_is now_is marked outside i low same =
    absurd (omega (arith, marked i low, ap (λ n. get_or now n 0) same, now_is k outside.1, middle_is k outside.0, below k))

-- no number of the list is another one's
pub not_in : (set : List ℕ) (number : ℕ) → ((i : ℕ) → i < length set → get_or set i 0 ≢ number) → has_number set number ≡ false
not_in set number none =
    elim (bool_cases (has_number set number)) [
      | inr not ↦ not
      | inl is ↦
          let found = has_number-index set number is in
          absurd (none found.0 found.1 found.2)
    ]
