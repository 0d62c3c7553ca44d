-- Pairs of a numerator and a denominator.
use Rattle.std.specs.Prelude.{◌≡◌, ◌≢◌, ℕ, ◌*◌, ◌%◌, List, [], ◌∷◌}
use Rattle.poly_maps.specs.Polynomial.{coefficient, value_at, product_of}
use Rattle.poly_maps.specs.Bound.{IsWithin}
use Rattle.poly_maps.specs.declared.bound.Bounds.{Bounds}
use Rattle.poly_maps.specs.declared.pair.Pair.{Pair}

-- the denominator isn't zero, and both parts are within their bounds
pub record WithinBounds (b : Bounds) (f : Pair) : Type 0 where
  pub some : f.den ≢ []
  pub num : IsWithin b.num f.num
  pub den : IsWithin b.den f.den

-- at each point x with sample v, v times the denominator's value is the numerator's
abbrev pub Agrees : ℕ → List (List ℕ) → List ℕ → Pair → Type 0
Agrees m [] [] f = Unit {0}
Agrees m [] (v ∷ vs) f = ⊥
Agrees m (x ∷ xs) [] f = ⊥
Agrees m (x ∷ xs) (v ∷ vs) f = ((v * value_at f.den x) % m ≡ value_at f.num x % m) × Agrees m xs vs f

-- each numerator times the other's denominator is the same polynomial modulo m
abbrev pub CrossEqual : ℕ → Pair → Pair → Type 0
CrossEqual m f g = (e : List ℕ) → coefficient e (product_of f.num g.den) % m ≡ coefficient e (product_of g.num f.den) % m
