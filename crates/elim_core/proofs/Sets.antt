-- Ascending lists with the same numbers are one.
use Rattle.std.proofs.Common.{◌≡◌, ℕ, suc, ◌+◌, ◌-◌, ◌<◌, ◌≤◌, ◌==◌, true, List, [], ◌∷◌, get_or, inl, inr, refl, sym, ◌∙◌, ap, subst, arith}
use Rattle.std.proofs.lemmas.Bool.{cases_eq, or_cases, eqb-true}
use Rattle.elim_core.specs.Solver.{AreUnknowns, IsAscending, ListsIndependent, has_number}
use Rattle.elim_core.proofs.Choices.{has_number-index, index-has_number}

tail_ascends : (x : ℕ) (xs : List ℕ) → IsAscending (x ∷ xs) → IsAscending xs
tail_ascends x xs ascending i j order low = ascending (suc i) (suc j) (omega arith) (omega arith)

least_first : (x : ℕ) (xs : List ℕ) (n : ℕ) → IsAscending (x ∷ xs) → has_number (x ∷ xs) n ≡ true → x ≤ n
least_first x xs n ascending has =
    let at = has_number-index (x ∷ xs) n has in
    elim (cases_eq at.0 0) [
      | inl first ↦ omega (arith, at.2, ap (λ i. get_or (x ∷ xs) i 0) first)
      | inr later ↦ omega (arith, at.2, ascending 0 at.0 (omega arith) at.1)
    ]

later_greater : (x : ℕ) (xs : List ℕ) (n : ℕ) → IsAscending (x ∷ xs) → has_number xs n ≡ true → x < n
later_greater x xs n ascending has =
    let at = has_number-index xs n has in
    omega (arith, at.2, ascending 0 (suc at.0) (omega arith) (omega (arith, at.1)))

has_first : (x : ℕ) (xs : List ℕ) → has_number (x ∷ xs) x ≡ true
has_first x xs = index-has_number (x ∷ xs) 0 x (omega arith) refl

has_later : (x : ℕ) (xs : List ℕ) (n : ℕ) → has_number xs n ≡ true → has_number (x ∷ xs) n ≡ true
has_later x xs n has =
    let at = has_number-index xs n has in
    index-has_number (x ∷ xs) (suc at.0) n (omega (arith, at.1)) at.2

in_later : (x y : ℕ) (xs ys : List ℕ) (n : ℕ) → x ≡ y → IsAscending (x ∷ xs) → has_number xs n ≡ true → has_number (y ∷ ys) n ≡ true → has_number ys n ≡ true
in_later x y xs ys n same ascending has both =
    elim (or_cases (y == n) (has_number ys n) both) [
      | inl first ↦ absurd (omega (arith, later_greater x xs n ascending has, eqb-true y n first))
      | inr later ↦ later
    ]

same_sets : (a b : List ℕ) → IsAscending a → IsAscending b → ((n : ℕ) → has_number a n ≡ true → has_number b n ≡ true) → ((n : ℕ) → has_number b n ≡ true → has_number a n ≡ true) → a ≡ b
same_sets [] [] a_up b_up there back = refl
same_sets [] (y ∷ ys) a_up b_up there back = let none = back y (has_first y ys) in absurd (cc)
same_sets (x ∷ xs) [] a_up b_up there back = let none = there x (has_first x xs) in absurd (cc)
same_sets (x ∷ xs) (y ∷ ys) a_up b_up there back =
    let first : x ≡ y = omega (arith, least_first y ys x b_up (there x (has_first x xs)), least_first x xs y a_up (back y (has_first y ys))) in
    ap (λ n. n ∷ xs) first
    ∙ ap (λ ns. y ∷ ns) (same_sets xs ys (tail_ascends x xs a_up) (tail_ascends y ys b_up)
    (λ n has. in_later x y xs ys n first a_up has (there n (has_later x xs n has)))
    (λ n has. in_later y x ys xs n (sym first) b_up has (back n (has_later y ys n has))))

within : (m u : ℕ) (rows : List (List ℕ)) (a b : List ℕ) → AreUnknowns u a → ListsIndependent m u rows a → ListsIndependent m u rows b → (n : ℕ) → has_number a n ≡ true → has_number b n ≡ true
within m u rows a b numbers first second n has =
    let at = has_number-index a n has in
    let low = numbers at.0 at.1 in
    let number : n - 1 + 1 ≡ n = omega (arith, at.2, low.0) in
    let below : n - 1 < u = omega (arith, at.2, low.0, low.1) in
    subst (λ (k : ℕ). has_number b k ≡ true) number
    ((second (n - 1) below).1 ((first (n - 1) below).0 (subst (λ (k : ℕ). has_number a k ≡ true) (sym number) has)))

-- a system has one ascending list of its independent unknowns at most
pub independent_once : (m u : ℕ) (rows : List (List ℕ)) (a b : List ℕ) → IsAscending a → IsAscending b → AreUnknowns u a → AreUnknowns u b → ListsIndependent m u rows a → ListsIndependent m u rows b → a ≡ b
independent_once m u rows a b a_up b_up a_low b_low first second = same_sets a b a_up b_up (within m u rows a b a_low first second) (within m u rows b a b_low second first)
