-- Sums over a list that changes at one place, and sums of a function over all numbers below one.
use Rattle.std.proofs.Common.{◌≡◌, ℕ, zero, suc, ◌+◌, ◌<◌, ◌≤◌, ◌≢◌, List, [], ◌∷◌, length, set, sum_by, sym, refl, ap, subst, ⊎_elim, arith, eq-or-lt_of_le, lt_of_not-le}
use Rattle.std.proofs.lemmas.List.Sums.{sum_by-cons}
use mathlib.Core.Logic.{dite}
use mathlib.Core.Option.{some, some-injective, some-ne-none}
use native.Mathlib.Decide.{dec_le}
use lib.ListN.{get_elem?}

module _ {X : Type 0} where
  pub at_below : (xs : List X) (i : ℕ) → i < length xs → (x : X) × (get_elem? xs i ≡ some x)
  at_below [] i lt = absurd (omega arith)
  at_below (x ∷ xs) zero lt = (x, refl)
  at_below (x ∷ xs) (suc i) lt = at_below xs i (omega arith)

  pub sum_set : (f : X → ℕ) (xs : List X) (i : ℕ) (v w : X) → get_elem? xs i ≡ some v → sum_by f (set xs i w) + f v ≡ sum_by f xs + f w
  sum_set f [] i v w e = absurd (some-ne-none v (sym e))
  sum_set f (x ∷ xs) zero v w e = omega (arith, sum_by-cons f w xs, sum_by-cons f x xs, ap f (some-injective x v e))
  sum_set f (x ∷ xs) (suc i) v w e = omega (arith, sum_by-cons f x (set xs i w), sum_by-cons f x xs, sum_set f xs i v w e)

  pub sum_has : (f : X → ℕ) (xs : List X) (i : ℕ) (v : X) → get_elem? xs i ≡ some v → f v ≤ sum_by f xs
  sum_has f [] i v e = absurd (some-ne-none v (sym e))
  sum_has f (x ∷ xs) zero v e = omega (arith, sum_by-cons f x xs, ap f (some-injective x v e))
  sum_has f (x ∷ xs) (suc i) v e = omega (arith, sum_by-cons f x xs, sum_has f xs i v e)

  pub sum_has_both : (f : X → ℕ) (xs : List X) (i j : ℕ) (v w : X) → i ≢ j → get_elem? xs i ≡ some v → get_elem? xs j ≡ some w → f v + f w ≤ sum_by f xs
  sum_has_both f [] i j v w apart d e = absurd (some-ne-none v (sym d))
  sum_has_both f (x ∷ xs) zero zero v w apart d e = absurd (apart refl)
  sum_has_both f (x ∷ xs) zero (suc j) v w apart d e = omega (arith, sum_by-cons f x xs, ap f (some-injective x v d), sum_has f xs j w e)
  sum_has_both f (x ∷ xs) (suc i) zero v w apart d e = omega (arith, sum_by-cons f x xs, ap f (some-injective x w e), sum_has f xs i v d)
  sum_has_both f (x ∷ xs) (suc i) (suc j) v w apart d e = omega (arith, sum_by-cons f x xs, sum_has_both f xs i j v w (λ same. apart (ap suc same)) d e)

  pub sum_finds : (f : X → ℕ) (xs : List X) → 0 < sum_by f xs → (i : ℕ) × (v : X) × (get_elem? xs i ≡ some v) × (0 < f v)
  sum_finds f [] more = absurd (omega arith)
  sum_finds f (x ∷ xs) more = dite (dec_le 1 (f x)) (λ here. (0, x, refl, here))
      (λ not-here. let none = lt_of_not-le not-here in let later = sum_finds f xs (omega (arith, sum_by-cons f x xs)) in (suc later.0, later.1, later.2, later.3))

-- f 0 + f 1 + .. + f (n - 1)
abbrev pub up : ℕ → (ℕ → ℕ) → ℕ
up zero f = 0
up (suc n) f = up n f + f n

pub up_add : (f g : ℕ → ℕ) (n : ℕ) → up n (λ x. f x + g x) ≡ up n f + up n g
up_add f g zero = omega arith
up_add f g (suc n) = omega (arith, up_add f g n)

pub up_same : (f g : ℕ → ℕ) → ((x : ℕ) → f x ≡ g x) → (n : ℕ) → up n f ≡ up n g
up_same f g same zero = omega arith
up_same f g same (suc n) = omega (arith, same n, up_same f g same n)

pub up_none : (f : ℕ → ℕ) (n : ℕ) → ((x : ℕ) → x < n → f x ≡ 0) → up n f ≡ 0
up_none f zero none = omega arith
up_none f (suc n) none = omega (arith, none n (omega arith), up_none f n (λ x lt. none x (omega arith)))

pub up_le : (f : ℕ → ℕ) → ((x : ℕ) → f x ≤ 1) → (n : ℕ) → up n f ≤ n
up_le f le zero = omega arith
up_le f le (suc n) = omega (arith, le n, up_le f le n)

-- n numbers that are 0 or 1, and whose sum is n, are all 1
pub up_full : (f : ℕ → ℕ) → ((x : ℕ) → f x ≤ 1) → (n : ℕ) → up n f ≡ n → (x : ℕ) → x < n → f x ≡ 1
up_full f le zero full x lt = absurd (omega arith)
up_full f le (suc n) full x lt = ⊎_elim (λ same. subst (λ y. f y ≡ 1) (sym same) (omega (arith, full, le n, up_le f le n)))
    (λ less. up_full f le n (omega (arith, full, le n, up_le f le n)) x less) (eq-or-lt_of_le (omega arith))
