-- The points of an attempt: on each of some rays from one place the first points.
use Rattle.std.specs.Prelude.{ℕ, ◌+◌, ◌-◌, ◌*◌, ◌/◌, ◌^◌, List, [], ◌∷◌, map}
use Rattle.std.specs.List.{flat_map, range_with_len}
use Rattle.prime_field.specs.Sequence.{word}
use Rattle.poly_maps.specs.Enumeration.{starting}
use Rattle.poly_maps.specs.Moved.{point_sum, scaled}
use Rattle.ray_grid.specs.declared.grid.Grid.{Grid}
use Rattle.ray_grid.specs.Grid.{later_degrees}

-- where the rays of attempt r start: an entry for each variable, the first having the number 1
abbrev pub shift : ℕ → ℕ → List ℕ
shift r variables = map (λ i. word (64 + 16 * r + i) / 16) (range_with_len 1 variables)

-- the least slope of a ray of attempt r in the second variable, and in each later one
abbrev pub slopes : ℕ → ℕ → List ℕ
slopes r variables = map (λ i. word (64 + 16 * r + 8 + i) / 2 ^ 32) (range_with_len 2 (variables - 1))

-- the lists whose entries are at most those of `each`, in lexicographic order, so that the last entry changes fastest
abbrev pub lists_below : List ℕ → List (List ℕ)
lists_below [] = [] ∷ []
lists_below (e ∷ each) = starting (e + 1) (λ k. lists_below each)

-- the points s + t*direction, t from 1 to count
abbrev pub ray : ℕ → List ℕ → List ℕ → List (List ℕ)
ray count s direction = map (λ t. point_sum s (scaled t direction)) (range_with_len 1 count)

-- the points of attempt r: three more than the total degree on each ray, whose slope is 1 in the first variable and at
-- most the degree above the least one in each later variable
abbrev pub attempt_points : Grid → ℕ → List (List ℕ)
attempt_points g r =
    flat_map (λ j. ray (g.total + 3) (shift r g.variables) (1 ∷ point_sum (slopes r g.variables) j)) (lists_below (later_degrees g))
