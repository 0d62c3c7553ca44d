-- Bounds on exponents place by place, and on the degrees of a polynomial.
use Rattle.std.proofs.Common.{◌≡◌, ℕ, zero, suc, ◌≤◌, ◌<◌, ◌↔◌, List, [], ◌∷◌, length, get_or, slice_index, refl, sym, ◌∙◌, arith}
use Rattle.poly_maps.specs.declared.bound.Bound.{Bound}
use Rattle.poly_maps.specs.Bound.{IsWithin}
use Rattle.poly_maps.specs.Mono.{IsBelow, HasEight}
use Rattle.poly_maps.specs.Polynomial.{total_degree, degree_in, Supported}

pub IsBelow-places : (e each : List ℕ) → IsBelow e each → (length e ≡ length each) × ((k : ℕ) → get_or e k 0 ≤ get_or each k 0)
IsBelow-places [] [] below = (refl, λ k. omega arith)
IsBelow-places [] (b ∷ each) below = absurd below
IsBelow-places (x ∷ e) [] below = absurd below
IsBelow-places (x ∷ e) (b ∷ each) below =
    let rest = IsBelow-places e each below.1 in
    (omega (arith, rest.0), places rest.1)
  where
    places : ((k : ℕ) → get_or e k 0 ≤ get_or each k 0) → (k : ℕ) → get_or (x ∷ e) k 0 ≤ get_or (b ∷ each) k 0
    places later zero = below.0
    places later (suc k) = later k

pub IsBelow-from_places : (e each : List ℕ) → length e ≡ length each → ((k : ℕ) → k < length each → get_or e k 0 ≤ get_or each k 0) → IsBelow e each
IsBelow-from_places [] [] same low = tt
IsBelow-from_places [] (b ∷ each) same low = absurd (omega (arith, same))
IsBelow-from_places (x ∷ e) [] same low = absurd (omega (arith, same))
IsBelow-from_places (x ∷ e) (b ∷ each) same low =
    (low 0 (omega arith), IsBelow-from_places e each (omega (arith, same)) (λ k below. low (suc k) (omega arith)))

-- a polynomial is within a bound where its degrees are
within_to : (b : Bound) (p : List (List ℕ × ℕ)) → IsWithin b p → (total_degree p ≤ b.total) × ((i : ℕ) → degree_in i p ≤ slice_index b.each i)
within_to b [] within = (omega arith, λ i. omega arith)
within_to b (t ∷ p) within =
    let rest = within_to b p within.1 in
    let places = IsBelow-places t.0 b.each within.0.1 in
    (omega (arith, within.0.0, rest.0), λ i. omega (arith, places.1 i, rest.1 i))

within_from : (b : Bound) (p : List (List ℕ × ℕ)) → length b.each ≡ 8 → Supported HasEight p → total_degree p ≤ b.total → ((i : ℕ) → degree_in i p ≤ slice_index b.each i) → IsWithin b p
within_from b [] long eight total each = tt
within_from b (t ∷ p) long eight total each = (
  (omega arith, IsBelow-from_places t.0 b.each (eight.0 ∙ sym long) (λ k low. omega (arith, each k))),
  within_from b p long eight.1 (omega arith) (λ i. omega (arith, each i)),
)

pub within_by_degrees : (b : Bound) (p : List (List ℕ × ℕ)) → length b.each ≡ 8 → Supported HasEight p → IsWithin b p ↔ ((total_degree p ≤ b.total) × ((i : ℕ) → degree_in i p ≤ slice_index b.each i))
within_by_degrees b p long eight =
    (within_to b p, λ degrees. within_from b p long eight degrees.0 degrees.1)
