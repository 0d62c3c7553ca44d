-- Lists of points that pin a polynomial.
use Rattle.std.specs.Prelude.{◌≡◌, ℕ, ◌%◌, List, All}
use Rattle.poly_maps.specs.Mono.{HasEight}
use Rattle.poly_maps.specs.Polynomial.{coefficient, value_at, Supported}
use Rattle.poly_maps.specs.Bound.{IsWithin}
use Rattle.poly_maps.specs.declared.bound.Bound.{Bound}

-- among the polynomials within the bound, zero alone vanishes modulo m at each of the points
abbrev pub IsForcing : ℕ → Bound → List (List ℕ) → Type 0
IsForcing m b xs =
    (p : List (List ℕ × ℕ)) → Supported HasEight p → IsWithin b p → All (λ x. value_at p x % m ≡ 0) xs → (e : List ℕ) → coefficient e p % m ≡ 0
