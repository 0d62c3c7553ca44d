-- Bounds whose products a grid covers, and how many monomials bounds have.
use Rattle.std.specs.Prelude.{◌≡◌, ℕ, ◌+◌, ◌-◌, ◌≤◌, ◌↔◌, min, List, [], ◌∷◌, AllPairs, Contains, slice_index, take}
use Rattle.std.specs.declared.cmp.Ordering.TheVariants.{Less}
use Rattle.prime_field.specs.Sum.{sum_to}
use Rattle.poly_maps.specs.Bound.{IsMonomialWithin}
use Rattle.poly_maps.specs.Mono.{mono_cmp, HasEight}
use Rattle.poly_maps.specs.declared.bound.Bound.{Bound}
use Rattle.poly_maps.specs.declared.bound.Bounds.{Bounds}

-- the grid's degrees are at least the sums of those of numerator and denominator
pub record Covers (grid : Bound) (b : Bounds) : Type 0 where
  pub places : HasEight grid.each
  pub total : b.num.total + b.den.total ≤ grid.total
  pub each : (i : ℕ) → slice_index b.num.each i + slice_index b.den.each i ≤ slice_index grid.each i

-- the ascending list of the monomials in the first `variables` variables that are within the bound
pub record ListsMonomials (b : Bound) (variables : ℕ) (es : List (List ℕ)) : Type 0 where
  pub ascending : AllPairs (λ e f. mono_cmp e f ≡ Less) es
  pub members : (e : List ℕ) → Contains es e ↔ IsMonomialWithin b variables e

-- how many lists of exponents, each at most its entry, add up to `left` at most: the first exponent takes its share of
-- `left`, and the others have the rest
abbrev pub exponent_count : List ℕ → ℕ → ℕ
exponent_count [] left = 1
exponent_count (entry ∷ entries) left = sum_to (min entry left + 1) (λ k. exponent_count entries (left - k))

-- how many monomials in the first `variables` variables are within the bound
abbrev pub monomial_count : Bound → ℕ → ℕ
monomial_count b variables = exponent_count (take variables b.each) b.total

-- numerator and denominator have at most 1024 monomials together
abbrev pub HasFew : Bounds → ℕ → Type 0
HasFew b variables = monomial_count b.num variables + monomial_count b.den variables ≤ 1024
