-- Bounds on degrees.
use Rattle.std.specs.Prelude.{◌≡◌, ℕ, ◌≤◌, List, slice_index}
use Rattle.poly_maps.specs.Mono.{degree, IsBelow, HasEight}
use Rattle.poly_maps.specs.Polynomial.{Supported}
use Rattle.poly_maps.specs.declared.bound.Bound.{Bound}

-- the monomial's total degree is at most `total`, and each exponent at most its entry of `each`
abbrev pub WithinBound : Bound → List ℕ → Type 0
WithinBound b e = (degree e ≤ b.total) × IsBelow e b.each

-- each of the polynomial's monomials is within the bound
abbrev pub IsWithin : Bound → List (List ℕ × ℕ) → Type 0
IsWithin b = Supported (WithinBound b)

-- a monomial in the first `variables` variables that is within the bound
pub record IsMonomialWithin (b : Bound) (variables : ℕ) (e : List ℕ) : Type 0 where
  pub eight : HasEight e
  pub within : WithinBound b e
  pub others : (k : ℕ) → variables ≤ k → slice_index e k ≡ 0
