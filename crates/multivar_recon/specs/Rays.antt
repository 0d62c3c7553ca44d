-- Rays on which a pair is told by least pairs in one variable. A ray begins at s and goes through s + g for a direction g; t
-- counts the directions that are added.
use Rattle.std.specs.Prelude.{◌≡◌, ℕ, suc, ◌+◌, ◌*◌, ◌%◌, ◌<◌, List, [], ◌∷◌, length, map, slice_index, slice_index_or}
use Rattle.prime_field.specs.Residue.{IsUnit}
use Rattle.poly_maps.specs.Moved.{moved, graded, point_sum, scaled}
use Rattle.poly_maps.specs.Pair.{WithinBounds}
use Rattle.poly_maps.specs.Polynomial.{coefficient, value_at, total_degree}
use Rattle.poly_maps.specs.declared.bound.Bounds.{Bounds}
use Rattle.poly_maps.specs.declared.pair.Pair.{Pair}
use Rattle.ray_grid.specs.Attempt.{shift, slopes, lists_below}
use Rattle.ray_grid.specs.Grid.{later_degrees}
use Rattle.ray_grid.specs.declared.grid.Grid.{Grid}
use Rattle.thiele_interp.specs.Pairs.{IsLeastPair as IsLeastInOne}
use Rattle.multivar_recon.specs.Least.{IsPairModulo, leading_coefficient}

-- the points s + t*g, t from 1 to n, for each direction g in turn
pub record AreRays (s : List ℕ) (gs : List (List ℕ)) (n : ℕ) (xs : List (List ℕ)) : Type 0 where
  pub count : length xs ≡ length gs * n
  pub points : (d i : ℕ) → d < length gs → i < n → slice_index_or xs (d * n + i) [] ≡ point_sum s (scaled (suc i) (slice_index_or gs d []))

-- modulo m the coefficients in t of the polynomial at s + t*g
abbrev pub IsAlong : ℕ → List ℕ → List ℕ → List (List ℕ × ℕ) → List ℕ → Type 0
IsAlong m s g p r = (k : ℕ) → slice_index r k % m ≡ value_at (graded k (moved s p)) g % m

-- along the ray the pair is a least pair, of degrees a and b at most, of the samples v at t = 1, 2 and so on up to n. Its
-- denominator is a unit at t = 0, and in t it has the denominator's total degree, with a unit there. Where m is prime, what
-- isn't 0 is a unit
pub record IsOnRay (m n a b : ℕ) (s g : List ℕ) (v : ℕ → ℕ) (f : Pair) : Type 0 where
  pub num : List ℕ
  pub den : List ℕ
  pub num_along : IsAlong m s g f.num num
  pub den_along : IsAlong m s g f.den den
  pub least : IsLeastInOne m n suc v a b num den
  pub start : IsUnit m (slice_index den 0)
  pub top : IsUnit m (slice_index den (total_degree f.den))

-- the pair is within the bounds, and on each ray it is as above
pub record IsRegular (m : ℕ) (b : Bounds) (s : List ℕ) (gs : List (List ℕ)) (n : ℕ) (vs : List ℕ) (f : Pair) : Type 0 where
  pub pair : IsPairModulo m f
  pub within : WithinBounds b f
  pub each : (d : ℕ) → d < length gs → IsOnRay m n b.num.total b.den.total s (slice_index_or gs d []) (λ i. slice_index vs (d * n + i)) f

-- the directions of the rays of attempt r: 1 in the first variable
abbrev pub directions : Grid → ℕ → List (List ℕ)
directions g r = map (λ j. 1 ∷ point_sum (slopes r g.variables) j) (lists_below (later_degrees g))

-- some pair is so on each ray of attempt r
abbrev pub RegularRays : ℕ → Bounds → Grid → ℕ → List ℕ → Type 0
RegularRays m b g r vs = (f : Pair) × IsRegular m b (shift r g.variables) (directions g r) (g.total + 3) vs f

-- modulo m the pair g is c times f, with 1 as the denominator's leading coefficient
pub record IsMonicMultiple (m c : ℕ) (f g : Pair) : Type 0 where
  pub pair : IsPairModulo m g
  pub monic : leading_coefficient g.den ≡ 1
  pub num : (e : List ℕ) → coefficient e g.num ≡ (c * coefficient e f.num) % m
  pub den : (e : List ℕ) → coefficient e g.den ≡ (c * coefficient e f.den) % m
