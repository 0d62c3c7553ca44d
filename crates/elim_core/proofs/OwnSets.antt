-- One list of values over a set, and one set of a system's own.
use Rattle.std.proofs.Common.{◌≡◌, ℕ, suc, ◌+◌, ◌-◌, ◌*◌, ◌/◌, ◌%◌, ◌<◌, ◌≤◌, ◌==◌, true, List, [], ◌∷◌, All, length, get_or, inl, inr, refl, sym, ◌∙◌, ap, subst, arith}
use Rattle.std.proofs.Math.Nat.{div-add-mod', mod-lt}
use Rattle.std.proofs.lemmas.Bool.{cases_eq, cases_lt, or_cases, eqb-true}
use Rattle.std.proofs.lemmas.Grind.{same_number_lists}
use Rattle.std.proofs.lemmas.Nat.{div_below}
use Rattle.std.proofs.lemmas.List.Elements.{All-from_get_or}
use Rattle.elim_core.specs.Kept.{HasSolution}
use Rattle.elim_core.specs.Solved.{IsOwnSet, IsSolved}
use Rattle.elim_core.specs.Solver.{AreUnknowns, IsAscending, IsSolverList, has_number}
use Rattle.elim_core.proofs.Choices.{has_number-index, index-has_number}
use Rattle.elim_core.proofs.Solvers.{solver_constant, solver_multiple}

-- an entry of the values is that of a wanted unknown for one of the set, or its constant
module _ (m u : ℕ) (rows : List (List ℕ)) (set want values : List ℕ) (is : IsSolverList m u rows set want values) (i : ℕ) (low : i < length want * (length set + 1)) where
  row : ℕ
  row = i / (length set + 1)

  column : ℕ
  column = i % (length set + 1)

  row-low : row < length want
  unfolding row
  row-low = div_below i (length set + 1) (length want) (omega arith) low

  column-low : column < length set + 1
  unfolding column
  column-low = mod-lt i (omega arith)

  place : row * (length set + 1) + column ≡ i
  unfolding row column
  place = div-add-mod' i (length set + 1)

  entry-constant : column ≡ length set → get_or values i 0 ≡ is.d (get_or want row 0 - 1)
  entry-constant last =
      ap (λ k. get_or values k 0) (sym place) ∙ ap (λ k. get_or values (row * (length set + 1) + k) 0) last ∙ is.constants row row-low

  entry-multiple : column < length set → get_or values i 0 ≡ is.c (get_or want row 0 - 1) (get_or set column 0 - 1)
  entry-multiple before = ap (λ k. get_or values k 0) (sym place) ∙ is.multiples row column row-low before

-- the place of an unknown
unknown_place : (u : ℕ) (numbers : List ℕ) (i : ℕ) → AreUnknowns u numbers → i < length numbers → get_or numbers i 0 - 1 < u
unknown_place u numbers i are low = let number = are i low in omega (arith, number.0, number.1)

-- the values are residues
pub solved_residues : (m u : ℕ) (rows : List (List ℕ)) (set want values : List ℕ) → AreUnknowns u set → AreUnknowns u want → length values ≡ length want * (length set + 1) → IsSolverList m u rows set want values → All (λ x. x < m) values
solved_residues m u rows set want values set_low want_low room is = All-from_get_or (λ x. x < m) values 0 (λ i below.
    let low : i < length want * (length set + 1) = omega (arith, room) in
    let j = unknown_place u want (row m u rows set want values is i low) want_low (row-low m u rows set want values is i low) in
    elim (cases_lt (column m u rows set want values is i low) (length set)) [
      | inl before ↦
          subst (λ (x : ℕ). x < m) (sym (entry-multiple m u rows set want values is i low before))
          (is.tells.residues _ _ j (unknown_place u set (column m u rows set want values is i low) set_low before))
      | inr past ↦
          subst (λ (x : ℕ). x < m) (sym (entry-constant m u rows set want values is i low (omega (arith, past, column-low m u rows set want values is i low))))
          (is.tells.constants _ j)
    ])

-- a system's values over a set are one list at most
pub solved_once : (m u : ℕ) (rows : List (List ℕ)) (set want a b : List ℕ) → 1 < m → IsSolved m u rows set want a → IsSolved m u rows set want b → a ≡ b
unfolding column row
solved_once m u rows set want a b large first second = same_number_lists a b (first.room ∙ sym second.room) (λ i below.
    let low : i < length want * (length set + 1) = omega (arith, first.room) in
    let t = row m u rows set want a first.solved i low in
    let k = column m u rows set want a first.solved i low in
    let j = unknown_place u want t first.wanted (row-low m u rows set want a first.solved i low) in
    elim (cases_lt k (length set)) [
      | inl before ↦
          entry-multiple m u rows set want a first.solved i low before
          ∙ solver_multiple m u rows set first.solved.c second.solved.c first.solved.d second.solved.d large first.solved.tells second.solved.tells _ _ j (unknown_place u set k first.told_by before)
          ∙ sym (entry-multiple m u rows set want b second.solved i low before)
      | inr past ↦
          let last : k ≡ length set = omega (arith, past, column-low m u rows set want a first.solved i low) in
          entry-constant m u rows set want a first.solved i low last
          ∙ solver_constant m u rows set first.solved.c second.solved.c first.solved.d second.solved.d large first.solved.tells second.solved.tells _ j
          ∙ sym (entry-constant m u rows set want b second.solved i low last)
    ])

-- ascending lists with the same numbers are one
tail_ascends : (x : ℕ) (xs : List ℕ) → IsAscending (x ∷ xs) → IsAscending xs
tail_ascends x xs ascending i j order low = ascending (suc i) (suc j) (omega arith) (omega arith)

least_first : (x : ℕ) (xs : List ℕ) (n : ℕ) → IsAscending (x ∷ xs) → has_number (x ∷ xs) n ≡ true → x ≤ n
least_first x xs n ascending has =
    let at = has_number-index (x ∷ xs) n has in
    elim (cases_eq at.0 0) [
      | inl first ↦ omega (arith, at.2, ap (λ i. get_or (x ∷ xs) i 0) first)
      | inr later ↦ omega (arith, at.2, ascending 0 at.0 (omega arith) at.1)
    ]

later_greater : (x : ℕ) (xs : List ℕ) (n : ℕ) → IsAscending (x ∷ xs) → has_number xs n ≡ true → x < n
later_greater x xs n ascending has =
    let at = has_number-index xs n has in
    omega (arith, at.2, ascending 0 (suc at.0) (omega arith) (omega (arith, at.1)))

has_first : (x : ℕ) (xs : List ℕ) → has_number (x ∷ xs) x ≡ true
has_first x xs = index-has_number (x ∷ xs) 0 x (omega arith) refl

has_later : (x : ℕ) (xs : List ℕ) (n : ℕ) → has_number xs n ≡ true → has_number (x ∷ xs) n ≡ true
has_later x xs n has =
    let at = has_number-index xs n has in
    index-has_number (x ∷ xs) (suc at.0) n (omega (arith, at.1)) at.2

in_later : (x y : ℕ) (xs ys : List ℕ) (n : ℕ) → x ≡ y → IsAscending (x ∷ xs) → has_number xs n ≡ true → has_number (y ∷ ys) n ≡ true → has_number ys n ≡ true
in_later x y xs ys n same ascending has both =
    elim (or_cases (y == n) (has_number ys n) both) [
      | inl first ↦ absurd (omega (arith, later_greater x xs n ascending has, eqb-true y n first))
      | inr later ↦ later
    ]

pub same_sets : (a b : List ℕ) → IsAscending a → IsAscending b → ((n : ℕ) → has_number a n ≡ true → has_number b n ≡ true) → ((n : ℕ) → has_number b n ≡ true → has_number a n ≡ true) → a ≡ b
same_sets [] [] a_up b_up there back = refl
same_sets [] (y ∷ ys) a_up b_up there back = let none = back y (has_first y ys) in absurd (cc)
same_sets (x ∷ xs) [] a_up b_up there back = let none = there x (has_first x xs) in absurd (cc)
same_sets (x ∷ xs) (y ∷ ys) a_up b_up there back =
    let first : x ≡ y = omega (arith, least_first y ys x b_up (there x (has_first x xs)), least_first x xs y a_up (back y (has_first y ys))) in
    ap (λ n. n ∷ xs) first
    ∙ ap (λ ns. y ∷ ns) (same_sets xs ys (tail_ascends x xs a_up) (tail_ascends y ys b_up)
    (λ n has. in_later x y xs ys n first a_up has (there n (has_later x xs n has)))
    (λ n has. in_later y x ys xs n (sym first) b_up has (back n (has_later y ys n has))))

-- a system has one set of its own at most
own_set_within : (m u : ℕ) (rows : List (List ℕ)) (a b : List ℕ) → IsOwnSet m u rows a → IsOwnSet m u rows b → (n : ℕ) → has_number a n ≡ true → has_number b n ≡ true
own_set_within m u rows a b first second n has =
    let at = has_number-index a n has in
    let low = first.numbers at.0 at.1 in
    let number : n - 1 + 1 ≡ n = omega (arith, at.2, low.0) in
    let below : n - 1 < u = omega (arith, at.2, low.0, low.1) in
    subst (λ (k : ℕ). has_number b k ≡ true) number
    ((second.independent (n - 1) below).1 ((first.independent (n - 1) below).0 (subst (λ (k : ℕ). has_number a k ≡ true) (sym number) has)))

pub own_set_once : (m u : ℕ) (rows : List (List ℕ)) (a b : List ℕ) → IsOwnSet m u rows a → IsOwnSet m u rows b → a ≡ b
own_set_once m u rows a b first second = same_sets a b first.ascending second.ascending (own_set_within m u rows a b first second) (own_set_within m u rows b a second first)

-- a system without a solution has the empty set
pub own_set_none : (m u : ℕ) (rows : List (List ℕ)) → (HasSolution m u rows → ⊥) → IsOwnSet m u rows []
own_set_none m u rows none = record {
  ascending = λ i j order low. absurd (omega arith);
  numbers = λ i low. absurd (omega arith);
  independent = λ k low. (λ has. absurd (cc), λ is. absurd (none (record { zs = is.one; solves = is.one_solves })));
}
