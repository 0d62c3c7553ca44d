-- Polynomials taken at moved points and along rays, exactly over the numbers.
use Rattle.std.specs.Prelude.{ℕ, zero, suc, ◌+◌, ◌*◌, ◌==◌, List, [], ◌∷◌, ◌++◌, map, if◌then◌else◌}
use Rattle.poly_maps.specs.Mono.{degree}
use Rattle.poly_maps.specs.Polynomial.{times}

-- the sum of two points; missing entries are 0
abbrev pub point_sum : List ℕ → List ℕ → List ℕ
point_sum [] y = y
point_sum (a ∷ x) [] = a ∷ x
point_sum (a ∷ x) (b ∷ y) = (a + b) ∷ point_sum x y

-- the point with each entry multiplied by t
abbrev pub scaled : ℕ → List ℕ → List ℕ
scaled t = map (λ a. t * a)

-- the polynomial with one variable more in front, which none of its terms has
abbrev pub widened : List (List ℕ × ℕ) → List (List ℕ × ℕ)
widened [] = []
widened (t ∷ p) = (0 ∷ t.0, t.1) ∷ widened p

-- the monomial, and the polynomial, times the first variable
abbrev pub raised : List ℕ → List ℕ
raised [] = []
raised (k ∷ e) = (k + 1) ∷ e

abbrev pub times_first : List (List ℕ × ℕ) → List (List ℕ × ℕ)
times_first [] = []
times_first (t ∷ p) = (raised t.0, t.1) ∷ times_first p

-- the polynomial times the power k of x + a, where x is a new variable in front
abbrev pub times_power : ℕ → ℕ → List (List ℕ × ℕ) → List (List ℕ × ℕ)
times_power a zero p = widened p
times_power a (suc k) p = times a (times_power a k p) ++ times_first (times_power a k p)

-- the monomial taken at x + s
abbrev pub moved_mono : List ℕ → List ℕ → List (List ℕ × ℕ)
moved_mono [] s = ([], 1) ∷ []
moved_mono (k ∷ e) [] = times_power 0 k (moved_mono e [])
moved_mono (k ∷ e) (a ∷ s) = times_power a k (moved_mono e s)

-- the polynomial taken at x + s
abbrev pub moved : List ℕ → List (List ℕ × ℕ) → List (List ℕ × ℕ)
moved s [] = []
moved s (t ∷ p) = times t.1 (moved_mono t.0 s) ++ moved s p

-- the terms of total degree k
abbrev pub graded : ℕ → List (List ℕ × ℕ) → List (List ℕ × ℕ)
graded k [] = []
graded k (t ∷ p) = if degree t.0 == k then t ∷ graded k p else graded k p
