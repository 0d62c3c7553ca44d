-- The powers of a sum x + a, expanded: how the terms of a polynomial move in one variable.
use Rattle.std.specs.Prelude.{◌≡◌, ℕ, zero, suc, ◌+◌, ◌*◌, ◌%◌, ◌-◌, ◌≤◌, List, [], ◌∷◌, map, set, length}
use Rattle.poly_maps.specs.Mono.{HasEight}
use Rattle.poly_maps.specs.Polynomial.{coefficient, AreResidues, Supported}
use Rattle.poly_maps.specs.Moved.{moved}

-- each number modulo m
abbrev pub residues : ℕ → List ℕ → List ℕ
residues m = map (λ v. v % m)

-- coefficients times x + a, with b more at the lowest
abbrev pub times_sum : ℕ → ℕ → List ℕ → List ℕ
times_sum a b [] = b ∷ []
times_sum a b (r ∷ row) = (b + a * r) ∷ times_sum a r row

-- the coefficients of the power k of x + a, the lowest first
abbrev pub power_row : ℕ → ℕ → List ℕ
power_row a zero = 1 ∷ []
power_row a (suc k) = times_sum a 0 (power_row a k)

-- the terms that have the numbers of the row, by f, where e has in the place i the exponents j, j + 1 and so on
abbrev pub spread : (ℕ → ℕ) → List ℕ → ℕ → ℕ → List ℕ → List (List ℕ × ℕ)
spread f e i j [] = []
spread f e i j (r ∷ row) = (set e i j, f r) ∷ spread f e i (j + 1) row

-- the point with a in the place i and zeros before
abbrev pub alone : ℕ → ℕ → List ℕ
alone zero a = a ∷ []
alone (suc i) a = 0 ∷ alone i a

-- a row that the coefficients of some power of x + a leave modulo m
abbrev pub IsPowerRow : ℕ → ℕ → List ℕ → Type 0
IsPowerRow m a row = (1 ≤ length row) × (row ≡ residues m (power_row a (length row - 1)))

-- the terms, of which some may have one monomial, are those moved by a in the variable i
pub record AreMoved (m i a : ℕ) (terms new : List (List ℕ × ℕ)) : Type 0 where
  pub coefficients : (e : List ℕ) → coefficient e new % m ≡ coefficient e (moved (alone i a) terms) % m
  pub low : AreResidues m new
  pub places : Supported HasEight new
