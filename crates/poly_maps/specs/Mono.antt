-- Monomials, seen as the lists of their exponents: the first variable's, the second's, and so on.
use Rattle.std.specs.Prelude.{◌≡◌, ℕ, ◌+◌, ◌*◌, ◌^◌, ◌≤◌, Bool, List, [], ◌∷◌, length, nat_eq}
use Rattle.std.specs.declared.cmp.Ordering.{Ordering}
use Rattle.std.specs.Ordering.{nat_cmp, on, then_cmp}
use Rattle.std.specs.Cmp.Lexicographic.{slice_cmp, pointwise}

-- the total degree: the sum of the exponents
abbrev pub degree : List ℕ → ℕ
degree [] = 0
degree (k ∷ e) = k + degree e

-- the order of monomials: total degrees first, and then the exponents in turn, the greater exponent being the greater
abbrev pub mono_cmp : List ℕ → List ℕ → Ordering
mono_cmp = then_cmp (on degree nat_cmp) (slice_cmp nat_cmp)

-- whether two monomials are the same
abbrev pub is_same : List ℕ → List ℕ → Bool
is_same = pointwise nat_eq

-- the product of two monomials: exponents add up
abbrev pub mono_product : List ℕ → List ℕ → List ℕ
mono_product [] f = f
mono_product (k ∷ e) [] = k ∷ e
mono_product (k ∷ e) (l ∷ f) = (k + l) ∷ mono_product e f

-- the value at a point; where the point has fewer entries than there are exponents, the missing ones are 0
abbrev pub mono_value : List ℕ → List ℕ → ℕ
mono_value [] x = 1
mono_value (k ∷ e) [] = 0 ^ k * mono_value e []
mono_value (k ∷ e) (a ∷ x) = a ^ k * mono_value e x

-- there are as many exponents as bounds, each at most its bound
abbrev pub IsBelow : List ℕ → List ℕ → Type 0
IsBelow [] [] = Unit {0}
IsBelow [] (b ∷ each) = ⊥
IsBelow (k ∷ e) [] = ⊥
IsBelow (k ∷ e) (b ∷ each) = (k ≤ b) × IsBelow e each

-- a monomial of eight variables
abbrev pub HasEight : List ℕ → Type 0
HasEight e = length e ≡ 8
